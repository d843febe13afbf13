-- Bytes by pieces: the first, and those of the rest.
use Rattle.std.proofs.Common.{◌≡◌, ℕ, zero, suc, ◌+◌, ◌-◌, ◌/◌, ◌<◌, ◌≤◌, min, List, [], ◌∷◌, ◌++◌, length, take, drop, refl, ap, ◌∙◌, arith, append-nil, length-append, inl, inr}
use Rattle.std.proofs.Math.Nat.{add-div_right, div-eq_of_lt, div-le_self}
use Rattle.std.proofs.Math.Seq.{drop-append_seam}
use Rattle.std.proofs.Math.ListN.{drop_of_length-le}
use Rattle.std.proofs.lemmas.Bool.{cases_lt}
use Rattle.std.proofs.lemmas.List.{nil_from_length, take_all, take_at}
use Rattle.std.specs.Slice.Iter.{chunk_count}
use Rattle.cli.specs.Runs.{pieces}

-- some bytes have one piece more than those that are left without the first
count_some : (n k : ℕ) → 0 < k → 0 < n → chunk_count n k ≡ (n - 1) / k + 1
count_some n k p h =
    let m : n + k - 1 ≡ n - 1 + k = omega arith in
    let q : (n + k - 1) / k ≡ (n - 1) / k + 1 = ap (λ x. x / k) m ∙ add-div_right (n - 1) p in
    omega (arith, q, div-le_self (n - 1) k)

count_more : (n m k : ℕ) → 0 < k → 0 < n → m ≡ n - k → chunk_count n k ≡ suc (chunk_count m k)
count_more n zero k p h e =
    let q : (n - 1) / k ≡ 0 = div-eq_of_lt (omega arith) in
    omega (arith, count_some n k p h, q)
count_more n (suc m) k p h e =
    let i : n - 1 ≡ m + k = omega arith in
    let q : (n - 1) / k ≡ m / k + 1 = ap (λ x. x / k) i ∙ add-div_right m p in
    let r : m / k ≡ (suc m - 1) / k = ap (λ x. x / k) (omega arith) in
    omega (arith, count_some n k p h, count_some (suc m) k p (omega arith), q, r)

first_taken : (size : ℕ) (piece rest : List ℕ) → length piece ≡ min size (length piece + length rest) → take size (piece ++ rest) ≡ piece
first_taken size piece rest e =
    elim (cases_lt (length piece) size) [
      | inl short ↦
          let none : rest ≡ [] = nil_from_length rest (omega arith) in
          let le : length piece ≤ size = omega arith in
          rw (none, append-nil) (take_all size piece le)
      | inr long ↦
          let k : length piece ≡ size = omega arith in
          take_at piece rest size k
    ]

first_dropped : (size : ℕ) (piece rest : List ℕ) → length piece ≡ min size (length piece + length rest) → drop size (piece ++ rest) ≡ rest
first_dropped size piece rest e =
    elim (cases_lt (length piece) size) [
      | inl short ↦
          let none : rest ≡ [] = nil_from_length rest (omega arith) in
          rw (none, append-nil) (drop_of_length-le piece (omega arith))
      | inr long ↦
          let k : length piece ≡ size = omega arith in
          rw (← k) (drop-append_seam piece rest)
    ]

-- as `Chunks` gives them: the first piece, and those of what is left then
pub pieces_more : (size again : ℕ) (all piece rest : List ℕ) → 0 < size → again ≡ size → all ≡ piece ++ rest → length piece ≡ min size (length all) → 0 < length all
    → pieces size all ≡ piece ∷ pieces again rest
pieces_more size again all piece rest p s e l h =
    let n : length all ≡ length piece + length rest = ap length e ∙ length-append piece rest in
    let c : chunk_count (length all) size ≡ suc (chunk_count (length rest) size) = count_more (length all) (length rest) size p h (omega arith) in
    let k : length piece ≡ min size (length piece + length rest) = omega arith in
    let t : take size all ≡ piece = ap (take size) e ∙ first_taken size piece rest k in
    let d : drop size all ≡ rest = ap (drop size) e ∙ first_dropped size piece rest k in
    rw (s, c, t, d) refl
