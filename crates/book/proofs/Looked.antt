-- A table of readings holds what the tables say of each word.
use Rattle.std.proofs.Common.{◌≡◌, ◌∙◌, ℕ, zero, suc, ◌+◌, ◌%◌, ◌<◌, ap, arith, slice_index_or}
use Rattle.isa.specs.declared.reading.Reading.TheVariants.{Undefined}
use Rattle.book.specs.Readings.{reading, readings_from}
use Rattle.book.specs.declared.tables.Tables.{Tables}

looked_from : (t : Tables) (n w k : ℕ) → k < n → w + k < 65536 → slice_index_or (readings_from t w n) k Undefined ≡ reading t (w + k)
unfolding readings_from
looked_from t zero w k h b = absurd (omega arith)
looked_from t (suc n) w zero h b = let e : w ≡ w + 0 = omega arith in ap (reading t) e
looked_from t (suc n) w (suc k) h b =
    let next : (w + 1) % 65536 ≡ w + 1 = omega arith in
    let at : w + 1 + k ≡ w + suc k = omega arith in
    ap (λ v. slice_index_or (readings_from t v n) k Undefined) next
    ∙ looked_from t n (w + 1) k (omega arith) (omega arith)
    ∙ ap (reading t) at

pub looked : (t : Tables) (w : ℕ) → w < 65536 → slice_index_or (readings_from t 0 65536) w Undefined ≡ reading t w
looked t w h = let k : 0 + w < 65536 = omega arith in let e : 0 + w ≡ w = omega arith in looked_from t 65536 0 w h k ∙ ap (reading t) e
