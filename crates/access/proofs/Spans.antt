-- What one grant has, its rights may be asked byte by byte.
use Rattle.std.proofs.Common.{◌≡◌, ℕ, zero, suc, ◌+◌, ◌-◌, ◌%◌, ◌<◌, ◌≤◌, ◌&&◌, ◌||◌, ◌⊎◌, Bool, true, false, List, [], ◌∷◌, Some, None, Ok, Err, Option, Result, refl, sym, ap, ◌∙◌, inl, inr, arith, cond, get_or, slice_index_or, leb}
use Rattle.std.proofs.lemmas.Bool.Decides.{nat_tests}
use Rattle.std.specs.List.{list_any}
use Rattle.std.specs.Prelude.{replicate}
use Rattle.word.specs.Bytes as bytes
use Rattle.access.specs.Access.{allows, allows_all, bind, checked, covers_all, full_may, half_at, half_may, seen, within}
use Rattle.access.specs.Kinds.{access_of, permits}
use Rattle.access.specs.Cache.{IsAmong, no_bytes, spans}
use Rattle.access.specs.declared.rights.Rights.{Rights}
use Rattle.access.specs.declared.rights.Grant.{Grant}
use Rattle.access.specs.declared.kind.Use.{Use}
use Rattle.access.specs.declared.stop.Denial.{Denial}

or_cases : (a b : Bool) → a || b ≡ true → (a ≡ true) ⊎ (b ≡ true)
or_cases true b e = inl refl
or_cases false b e = inr e

or_first : (a b : Bool) → a ≡ true → a || b ≡ true
or_first true b e = refl
or_first false b e = cc

or_second : (a b : Bool) → b ≡ true → a || b ≡ true
or_second true b e = refl
or_second false b e = e

-- a grant that has the bytes from a to b has those from c to d among them
within_one : (first last a b c d : ℕ) (p : Bool) → a ≤ c → d ≤ b → (leb first a && leb b last) && p ≡ true → (leb first c && leb d last) && p ≡ true
within_one first last a b c d true h k e = grind (arith, nat_tests)
within_one first last a b c d false h k e = let z = no (leb first a && leb b last) e in cc
  where
    no : (x : Bool) → x && false ≡ true → false ≡ true
    no true z = z
    no false z = z

one : (g : Option Grant) (u : Use) (a b c d : ℕ) → a ≤ c → d ≤ b → covers_all g u a b ≡ true → covers_all g u c d ≡ true
one None u a b c d h k e = cc
one (Some g) u a b c d h k e = within_one g.first g.last a b c d (permits g.kind u) h k e

each : (gs : List (Option Grant)) (u : Use) (a b c d : ℕ) → a ≤ c → d ≤ b → list_any (λ g. covers_all g u a b) gs ≡ true → list_any (λ g. covers_all g u c d) gs ≡ true
each [] u a b c d h k e = cc
each (g ∷ gs) u a b c d h k e =
    elim (or_cases (covers_all g u a b) (list_any (λ g. covers_all g u a b) gs) e) [
      | inl t ↦ or_first (covers_all g u c d) (list_any (λ g. covers_all g u c d) gs) (one g u a b c d h k t)
      | inr t ↦ or_second (covers_all g u c d) (list_any (λ g. covers_all g u c d) gs) (each gs u a b c d h k t)
    ]

part : (rights : Rights) (u : Use) (a b c d : ℕ) → a ≤ c → d ≤ b → spans rights u a b ≡ true → spans rights u c d ≡ true
part rights u a b c d h k e = each rights.grants u a b c d h k e

both : (a b : Bool) → a ≡ true → b ≡ true → a && b ≡ true
both true b p q = q
both false b p q = p

all_spanned : (rights : Rights) (u : Use) (n a last : ℕ) → a + n ≤ last + 1 → spans rights u a last ≡ true → allows_all rights u a n ≡ true
all_spanned rights u zero a last h e = refl
all_spanned rights u (suc n) a last h e = both (allows rights u a) (allows_all rights u (a + 1) n) (part rights u a last a a (omega arith) (omega arith) e) (all_spanned rights u n (a + 1) last (omega arith) (part rights u a last (a + 1) last (omega arith) (omega arith) e))

-- one grant has all of n bytes
pub spans_all : (rights : Rights) (u : Use) (a n last : ℕ) → a + n ≤ last + 1 → last < 65536 → spans rights u a last ≡ true → within rights u a n ≡ true
spans_all rights u a n last h k e = both (leb (a + n) 65536) (allows_all rights u a n) (grind (arith, nat_tests)) (all_spanned rights u n a last h e)

-- what is asked of a byte, by whether it is allowed
abbrev asked : Use → ℕ → Bool → Result (Unit {0}) Denial
asked u at b = cond b (Ok tt) (Err (record { access = access_of u; byte = at }))

abbrev look_both : Use → List ℕ → ℕ → ℕ → Bool → Bool → Result ℕ Denial
look_both u bs at m a b = bind (bind (asked u at a) (λ _. Ok (get_or bs at 0))) (λ high. bind (bind (asked u m b) (λ _. Ok (get_or bs m 0))) (λ low. Ok (bytes.half high low)))

pub pair_read : (rights : Rights) (u : Use) (bs two : List ℕ) (at : ℕ) → two ≡ get_or bs (at - at % 2) 0 ∷ get_or bs (at - at % 2 + 1) 0 ∷ [] → at % 2 ≡ 0 → at < 65536 → spans rights u at (at + 1) ≡ true → Ok (bytes.half (get_or two 0 0) (get_or two 1 0)) ≡ half_at (seen rights u bs) at
pair_read rights u bs two at t even h e =
    let m : (at + 1) % 65536 ≡ at + 1 = omega arith in
    let a : at - at % 2 ≡ at = omega arith in
    let b : at - at % 2 + 1 ≡ (at + 1) % 65536 = omega arith in
    let k : allows rights u at ≡ true = part rights u at (at + 1) at at (omega arith) (omega arith) e in
    let l : allows rights u ((at + 1) % 65536) ≡ true = ap (allows rights u) m ∙ part rights u at (at + 1) (at + 1) (at + 1) (omega arith) (omega arith) e in
    ap (λ (two : List ℕ). Ok (bytes.half (get_or two 0 0) (get_or two 1 0))) t
    ∙ (λ i. Ok (bytes.half (get_or bs (a i) 0) (get_or bs (b i) 0)))
    ∙ sym (λ i. look_both u bs at ((at + 1) % 65536) (k i) (l i))

pub pair_may : (rights : Rights) (u : Use) (at next : ℕ) → next ≡ at + 1 → at < 65535 → spans rights u at next ≡ true → Ok tt ≡ half_may (checked rights u) at
pair_may rights u at next n h e =
    let m : (at + 1) % 65536 ≡ at + 1 = omega arith in
    let k : allows rights u at ≡ true = part rights u at next at at (omega arith) (omega arith) e in
    let l : allows rights u ((at + 1) % 65536) ≡ true = ap (allows rights u) m ∙ part rights u at next (at + 1) (at + 1) (omega arith) (omega arith) e in
    sym (λ i. bind (asked u at (k i)) (λ _. asked u ((at + 1) % 65536) (l i)))

pub quad_may : (rights : Rights) (u : Use) (at : ℕ) → at < 65533 → spans rights u at (at + 3) ≡ true → Ok tt ≡ full_may (checked rights u) at
quad_may rights u at h e =
    let m : (at + 2) % 65536 ≡ at + 2 = omega arith in
    let high = pair_may rights u at (at + 1) refl (omega arith) (part rights u at (at + 3) at (at + 1) (omega arith) (omega arith) e) in
    let low = pair_may rights u (at + 2) (at + 3) (omega arith) (omega arith) (part rights u at (at + 3) (at + 2) (at + 3) (omega arith) (omega arith) e) in
    (λ i. bind (high i) (λ _. (low ∙ ap (half_may (checked rights u)) (sym m)) i))

none_has : (u : Use) (a b : ℕ) → a ≤ b → covers_all (Some no_bytes) u a b ≡ true → ⊥
none_has u a zero h e = grind (arith, nat_tests)
none_has u a (suc b) h e = grind (arith, nat_tests)

-- no bytes are had by grants that have none
pub none_near : (rights : Rights) (n page : ℕ) → IsAmong (slice_index_or (replicate n no_bytes) page no_bytes) rights
none_near rights zero page u a b h e = absurd (none_has u a b h e)
none_near rights (suc n) zero u a b h e = absurd (none_has u a b h e)
none_near rights (suc n) (suc page) u a b h e = none_near rights n page u a b h e
