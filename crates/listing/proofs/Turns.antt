use Rattle.std.proofs.Common.{◌≡◌, ℕ, ◌+◌, ◌<◌, ◌≤◌, Bool, true, cond, ltb, List, [], Some, Ok, Err, Option, Result, sym, ap, ◌∙◌}
use Rattle.std.specs.Result.{IsErrAnd}
use Rattle.std.proofs.lemmas.Bool.{lt-ltb, le-ltb, cond-true}
use Rattle.text.specs.declared.line.Line.{Line as TextLine}
use Rattle.text.specs.Faults.{at_line}
use Rattle.text.specs.LineRule.{rest_read}
use Rattle.text.specs.Lines.{Rest, a_line, unended, next, shown}
use Rattle.text.specs.Search.{Bytes}
use Rattle.text.proofs.Reading.{rest_read-next, next-number}
use Rattle.book.specs.declared.tables.Tables.{Tables}
use Rattle.listing.specs.declared.fault.Fault.{Fault}
use Rattle.listing.specs.declared.fault.Fault.TheVariants.{Unended, Below}
use Rattle.listing.specs.declared.listing.Listing.{Listing}
use Rattle.listing.specs.declared.placed.Placed.{Placed}
use Rattle.listing.specs.Words.{words, uncommented}
use Rattle.listing.specs.Line.{Says, a_word, Line, line_rule}
use Rattle.listing.specs.Listing.{Read, answer_before, place_rule, end_after, halfword_placed, numbers_placed, placed_before, content_placed, line_placed, placing, remaining}

-- the lines that are left, from the address e on
abbrev onward : Tables → Rest → ℕ → Read
onward t ls e = rest_read (placing t) e ls

-- a fault that was handed on
pub refused : (n : ℕ) (q : Result (Option Placed) Fault) (f : Fault) (after : Read) → IsErrAnd q (λ g. g ≡ f) → answer_before (at_line n q) after ≡ Err (record { fault = f; line = n })
refused n (Err g) f after h = ap (λ (v : Fault). Err (record { fault = v; line = n })) h
refused n (Ok o) f after h = absurd h

-- the line in hand has no halfwords left
pub turned : (t : Tables) (r : Listing) → [] ≡ words r.rest.now → remaining t r ≡ onward t r.lines r.end
turned t r h = ap (λ (v : List Bytes). numbers_placed r.line r.end v (onward t r.lines)) (sym h)

pub stopped : (t : Tables) (r : Listing) (ls : Rest) (n : ℕ) → [] ≡ words r.rest.now → (unended n, ls) ≡ next r.lines → Err (record { fault = Unended; line = r.lines.line }) ≡ remaining t r
stopped t r ls n h e = sym (turned t r h ∙ rest_read-next (placing t) r.end r.lines ls (unended n) e ∙ ap (λ (k : ℕ). Err (record { fault = Unended; line = k })) (next-number r.lines ls (unended n) e))

-- the next line says o, and then come the lines ls
pub record Lined (t : Tables) (r : Listing) (ls : Rest) (o : Line) : Type 0 where
  pub number : ℕ
  pub text : Bytes
  pub none : [] ≡ words r.rest.now
  pub found : (a_line number text, ls) ≡ next r.lines
  pub says : o ≡ line_rule t (words (uncommented text))

pub lined : (t : Tables) (r : Listing) (ls : Rest) (q : Option TextLine) (l : TextLine) (o : Line) → [] ≡ words r.rest.now → q ≡ Some l → (shown (Ok q), ls) ≡ next r.lines → o ≡ line_rule t (words (uncommented l.text.now)) → Lined t r ls o
lined t r ls q l o none is found says = record { number = l.number; text = l.text.now; none = none; found = ap (λ (v : Option TextLine). (shown (Ok v), ls)) (sym is) ∙ found; says = says }

pub by_line : (t : Tables) (r : Listing) (ls : Rest) (o : Line) → Lined t r ls o → line_placed r.lines.line r.end o (onward t ls) ≡ remaining t r
by_line t r ls o g =
    sym (turned t r g.none
    ∙ rest_read-next (placing t) r.end r.lines ls (a_line g.number g.text) g.found
    ∙ ap (λ (k : ℕ). line_placed k r.end (line_rule t (words (uncommented g.text))) (onward t ls)) (next-number r.lines ls (a_line g.number g.text) g.found)
    ∙ ap (λ (v : Line). line_placed r.lines.line r.end v (onward t ls)) (sym g.says))

pub too_low : (t : Tables) (r : Listing) (ls : Rest) (a : ℕ) (x : Says) → Lined t r ls (Ok (Some (a, x))) → a < r.end → Err (record { fault = Below; line = r.lines.line }) ≡ remaining t r
too_low t r ls a x g h =
    let n = r.lines.line in
    ap (λ (v : Bool). cond v (Err (record { fault = Below; line = n })) (content_placed n a x (onward t ls))) (sym (lt-ltb a r.end h)) ∙ by_line t r ls (Ok (Some (a, x))) g

pub from_here : (t : Tables) (r : Listing) (ls : Rest) (a : ℕ) (x : Says) → Lined t r ls (Ok (Some (a, x))) → r.end ≤ a → content_placed r.lines.line a x (onward t ls) ≡ remaining t r
from_here t r ls a x g h =
    let n = r.lines.line in
    ap (λ (v : Bool). cond v (Err (record { fault = Below; line = n })) (content_placed n a x (onward t ls))) (sym (le-ltb a r.end h)) ∙ by_line t r ls (Ok (Some (a, x))) g

-- a word was placed, which leaves s
pub word_done : (t : Tables) (r s s' : Listing) (a w : ℕ) (p : Placed) → Lined t r s.lines (Ok (Some (a, a_word w))) → r.end ≤ a → a < 65536 → Ok p ≡ place_rule a w true → s.rest ≡ r.rest → s' ≡ record s { end = end_after a } → placed_before p (remaining t s') ≡ remaining t r
word_done t r s s' a w p g h k placed rest after =
    let z : [] ≡ words s.rest.now = g.none ∙ ap (λ v. words v.now) (sym rest) in
    let e : end_after a ≡ a + 2 = cond-true (ltb a 65536) (a + 2) a (lt-ltb a 65536 k) in
    let y : remaining t s' ≡ onward t s.lines (a + 2) = ap (remaining t) after ∙ turned t (record s { end = end_after a }) z ∙ ap (onward t s.lines) e in
    ap (placed_before p) y ∙ ap (λ (q : Result Placed Fault). halfword_placed r.lines.line q (onward t s.lines (a + 2))) placed ∙ from_here t r s.lines a (a_word w) g h
