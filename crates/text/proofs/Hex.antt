-- Hexadecimal digits, as the crate `hex` reads them.
use Rattle.std.proofs.Common.{◌≡◌, ℕ, ◌+◌, ◌*◌, ◌/◌, ◌%◌, true, false, eqb, length, List, [], ◌∷◌, Some, None, Ok, Err, Option, Result, refl, sym, ap, ◌∙◌, ⊎_elim, arith}
use Rattle.std.proofs.lemmas.Bool.{cases_Bool, eqb-false, ne_eqb}
use Rattle.std.specs.Prelude.{option_and_then, slice_index}
use Rattle.std.specs.Option.{option_map}
use Rattle.std.specs.Result.{result_ok}
use Rattle.hex.specs.declared.error.FromHexError.{FromHexError}
use Rattle.hex.specs.Hex.{◌>>=◌, hex_digit_value, digit_or_error, pair_value, decode_pairs, decode_sized}
use Rattle.text.specs.Search.{Bytes}
use Rattle.text.specs.Numbers.{hex_byte, hex_word}

digits_ok : (a b i j : ℕ) (p q : Option ℕ) → result_ok (digit_or_error a i p >>= λ h. digit_or_error b j q >>= λ l. Ok (h * 16 + l)) ≡ option_and_then (λ h. option_and_then (λ l. Some (h * 16 + l)) q) p
digits_ok a b i j None q = refl
digits_ok a b i j (Some h) None = refl
digits_ok a b i j (Some h) (Some l) = refl

pair_ok : (a b i : ℕ) → result_ok (pair_value a b i) ≡ hex_byte a b
pair_ok a b i = digits_ok a b i (i + 1) (hex_digit_value a) (hex_digit_value b)

-- the bytes that a text spells, if they are there
abbrev pub byte_of : Result (List ℕ) FromHexError → Option ℕ
byte_of r = option_map (λ bs. slice_index bs 0) (result_ok r)

abbrev pub word_of : Result (List ℕ) FromHexError → Option ℕ
word_of r = option_map (λ bs. slice_index bs 0 * 256 + slice_index bs 1) (result_ok r)

by_pair : (r : Result ℕ FromHexError) → byte_of (r >>= λ byte. Ok (byte ∷ [])) ≡ result_ok r
by_pair (Ok x) = refl
by_pair (Err e) = refl

pub byte_read : (a b : ℕ) → byte_of (decode_sized (a ∷ b ∷ []) 1) ≡ hex_byte a b
unfolding decode_pairs
byte_read a b = by_pair (pair_value a b 0) ∙ pair_ok a b 0

by_pairs : (r r' : Result ℕ FromHexError) → word_of (r >>= λ high. ((r' >>= λ low. Ok (low ∷ [])) >>= λ bytes. Ok (high ∷ bytes))) ≡ option_and_then (λ high. option_and_then (λ low. Some (high * 256 + low)) (result_ok r')) (result_ok r)
by_pairs (Err e) r' = refl
by_pairs (Ok x) (Err e) = refl
by_pairs (Ok x) (Ok y) = refl

pub word_read : (s : Bytes) → word_of (decode_sized s 2) ≡ hex_word s
unfolding decode_pairs
word_read [] = refl
word_read (a ∷ []) = refl
word_read (a ∷ b ∷ []) = refl
word_read (a ∷ b ∷ c ∷ []) = refl
word_read (a ∷ b ∷ c ∷ d ∷ []) =
    let high = pair_ok a b 0 in
    let low = pair_ok c d 2 in
    by_pairs (pair_value a b 0) (pair_value c d 2) ∙ rw (high, low)
word_read (a ∷ b ∷ c ∷ d ∷ e ∷ s) =
    let n = length (a ∷ b ∷ c ∷ d ∷ e ∷ s) in
    ⊎_elim
    (λ (odd : eqb (n % 2) 1 ≡ true). simp odd)
    (λ (even : eqb (n % 2) 1 ≡ false). let two : eqb (n / 2) 2 ≡ false = ne_eqb (n / 2) 2 (λ h. omega (arith, eqb-false (n % 2) 1 even)) in simp (even, two))
    (cases_Bool (eqb (n % 2) 1))

pub byte_there : (a b : ℕ) (s : Bytes) (r : Result (List ℕ) FromHexError) (bs : List ℕ) → r ≡ decode_sized s 1 → s ≡ a ∷ b ∷ [] → r ≡ Ok bs → Some (slice_index bs 0) ≡ hex_byte a b
byte_there a b s r bs h e k = ap byte_of (sym k ∙ h ∙ ap (λ t. decode_sized t 1) e) ∙ byte_read a b
