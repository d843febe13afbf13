use Rattle.std.proofs.Common.{◌≡◌, ℕ, true, ℤ, Ok, Err, Result, sym, ◌∙◌, subst, arith}
use Rattle.isa.specs.declared.name.Name.{Name}
use Rattle.isa.specs.declared.format.Format.{Format}
use Rattle.isa.specs.declared.reading.Reading.{Reading}
use Rattle.isa.specs.declared.reading.Reading.TheVariants.{Undefined, NoPattern, Defined}
use Rattle.book.specs.declared.tables.Tables.{Tables}
use Rattle.book.specs.declared.encode_error.EncodeError.{EncodeError}
use Rattle.book.specs.Sound.{sound}
use Rattle.book.specs.Readings.{meaning, reading}
use Rattle.book.specs.Encode.{encode}
use Rattle.book.specs.Laws.{IsLayout, IsSoleLayout, EncodesBack, ReadsBack}
use Rattle.book.proofs.Facts.{facts}
use Rattle.book.proofs.Layouts.{IsLayoutIfDefined, reading_is_layout}
use Rattle.book.proofs.Sole.{sole}
use Rattle.book.proofs.EncodesBack.{encodes_back}
use Rattle.book.proofs.Encoded.{encoded}

by_reading : (t : Tables) → sound t ≡ true → (w : ℕ) (r : Reading) → meaning t w ≡ r → IsLayoutIfDefined t w r → IsLayout t w r
by_reading t s w Undefined e l = λ n f m d k. let q = sole t (facts t s) w n f m d k in let z : ◌≡◌ {A = ℕ} 0 1 = cc in omega arith
by_reading t s w NoPattern e l = λ n f m d k. let q = sole t (facts t s) w n f m d k in let z : ◌≡◌ {A = ℕ} 0 1 = cc in omega arith
by_reading t s w (Defined n f m d) e l = l

encodes_reading_back : (t : Tables) → sound t ≡ true → (w : ℕ) (r : Reading) → IsLayoutIfDefined t w r → EncodesBack t w r
unfolding encode
encodes_reading_back t s w Undefined l = tt
encodes_reading_back t s w NoPattern l = tt
encodes_reading_back t s w (Defined n f m d) l = encodes_back t (facts t s) w n f m d l

pub is_layout : (t : Tables) → sound t ≡ true → (w : ℕ) (r : Reading) → r ≡ reading t w → IsLayout t w r
unfolding reading
is_layout t s w r e = by_reading t s w r (sym e) (subst (IsLayoutIfDefined t w) (sym e) (reading_is_layout t w))

pub is_sole_layout : (t : Tables) → sound t ≡ true → (w : ℕ) (r : Reading) → r ≡ reading t w → IsSoleLayout t w r
unfolding reading
is_sole_layout t s w r e n f m d l = e ∙ sole t (facts t s) w n f m d l

pub encodes_word_back : (t : Tables) → sound t ≡ true → (w : ℕ) (r : Reading) → r ≡ reading t w → EncodesBack t w r
unfolding reading
encodes_word_back t s w r e = encodes_reading_back t s w r (subst (IsLayoutIfDefined t w) (sym e) (reading_is_layout t w))

pub reads_back : (t : Tables) → sound t ≡ true → (n : Name) (f : Format) (m d : ℤ) (r : Result ℕ EncodeError) → r ≡ encode t n f m d → ReadsBack t n f m d r
unfolding reading encode
reads_back t s n f m d (Ok w) e =
    let a = encoded t w n f m d (sym e) in
    record { x = a.x; m_is = a.m_is; reads = sole t (facts t s) w n f a.x d a.lays }
reads_back t s n f m d (Err u) e = tt
