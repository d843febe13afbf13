use Rattle.std.proofs.Common.{◌≡◌, ℕ, ◌-◌, ◌%◌, ◌≤◌, ◌≤ℤ◌, ℤ, pos, neg_ℤ, nat_abs, Some, None, Option, refl, ap, ◌∙◌, subst, arith, rules}
use Rattle.std.specs.Int.{int_rem_euclid}
use Rattle.std.specs.Option.{option_map}
use Rattle.std.proofs.lemmas.Int.{int_rem_euclid_is}
use Rattle.text.specs.Search.{Bytes}
use Rattle.text.specs.Numbers.{number_of}
use Rattle.listing.specs.Numbers.{integer_by_sign, half_by_sign}

plus : (q : Option ℕ) (z r : ℤ) → Some z ≡ option_map pos q → z ≤ℤ pos 65535 → r ≡ int_rem_euclid z (pos 65536) → Some (nat_abs r) ≡ q
plus None z r h b e = let y : ◌≡◌ {A = ℕ} 0 1 = cc in absurd (omega arith)
plus (Some m) z r h b e =
    let i : z ≡ pos m = cc in
    let g : int_rem_euclid z (pos 65536) ≡ pos (m % 65536) = int_rem_euclid_is z (pos 65536) 65536 0 m (omega arith) refl (grind arith) in
    let h : pos m ≤ℤ pos 65535 = subst (λ v. v ≤ℤ pos 65535) i b in
    let le : m ≤ 65535 = search rules in
    let v : m % 65536 ≡ m = omega arith in
    ap (λ n. Some (nat_abs n)) (e ∙ g) ∙ ap (λ n. Some n) v

minus : (q : Option ℕ) (z r : ℤ) → Some z ≡ option_map (λ n. neg_ℤ (pos n)) q → neg_ℤ (pos 32768) ≤ℤ z → r ≡ int_rem_euclid z (pos 65536) → Some (nat_abs r) ≡ option_map (λ n. (65536 - n) % 65536) q
minus None z r h b e = let y : ◌≡◌ {A = ℕ} 0 1 = cc in absurd (omega arith)
minus (Some m) z r h b e =
    let i : z ≡ neg_ℤ (pos m) = cc in
    let g : int_rem_euclid z (pos 65536) ≡ pos ((65536 - m) % 65536) = int_rem_euclid_is z (pos 65536) 65536 1 (65536 - m) (omega arith) refl (grind arith) in
    ap (λ n. Some (nat_abs n)) (e ∙ g)

-- the halfword of the number z is its remainder
pub half_by : (o : Option Bytes) (s : Bytes) (z r : ℤ) → Some z ≡ integer_by_sign 32768 o s → neg_ℤ (pos 32768) ≤ℤ z → z ≤ℤ pos 65535 → r ≡ int_rem_euclid z (pos 65536) → Some (nat_abs r) ≡ half_by_sign o s
half_by None s z r h a b e = plus (number_of 0 65535 s) z r h b e
half_by (Some t) s z r h a b e = minus (number_of 0 32768 t) z r h a e
