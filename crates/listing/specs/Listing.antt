-- The whole of a listing.
use Rattle.std.specs.Prelude.{ℕ, ◌+◌, Bool, true, false, List, [], ◌∷◌, Some, None, Ok, Err, Option, Result, nat_lt, if◌then◌else◌}
use Rattle.text.specs.declared.fault.AtLine.{AtLine}
use Rattle.text.specs.Lines.{whole}
use Rattle.text.specs.LineRule.{LineRule, rest_read}
use Rattle.text.specs.Search.{Bytes}
use Rattle.book.specs.declared.tables.Tables.{Tables}
use Rattle.listing.specs.declared.fault.Fault.{Fault}
use Rattle.listing.specs.declared.fault.Fault.TheVariants.{Unended, Below, Past, Number}
use Rattle.listing.specs.declared.listing.Listing.{Listing}
use Rattle.listing.specs.declared.placed.Placed.{Placed}
use Rattle.listing.specs.Numbers.{half_of}
use Rattle.listing.specs.Words.{words, uncommented}
use Rattle.listing.specs.Line.{Says, a_word, halfwords, Line, line_rule}

-- the halfwords that are placed, in their order, or the first fault with its line
abbrev pub Read : Type 0
Read = Result (List Placed) (AtLine Fault)

-- one halfword more, in front of what follows
abbrev pub placed_before : Placed → Read → Read
placed_before p (Err e) = Err e
placed_before p (Ok ps) = Ok (p ∷ ps)

abbrev pub some_before : Option Placed → Read → Read
some_before None after = Ok []
some_before (Some p) after = placed_before p after

-- an answer, and what comes after it
abbrev pub answer_before : Result (Option Placed) (AtLine Fault) → Read → Read
answer_before (Err e) after = Err e
answer_before (Ok o) after = some_before o after

-- a halfword at the address e, unless it lies past 65,535
abbrev pub place_rule : ℕ → ℕ → Bool → Result Placed Fault
place_rule e h c =
    if nat_lt e 65536 then Ok (record { address = e; halfword = h; code = c })
    else Err Past

-- the end after a halfword at e
abbrev pub end_after : ℕ → ℕ
end_after e = if nat_lt e 65536 then e + 2 else e

-- a halfword of line n, and what comes after it
abbrev pub halfword_placed : ℕ → Result Placed Fault → Read → Read
halfword_placed n (Err f) after = Err (record { fault = f; line = n })
halfword_placed n (Ok p) after = placed_before p after

abbrev pub number_placed : ℕ → ℕ → Option ℕ → (ℕ → Read) → Read
number_placed n e None k = Err (record { fault = Number; line = n })
number_placed n e (Some h) k = halfword_placed n (place_rule e h false) (k (e + 2))

-- the halfwords of line n from the address e on, and then the lines after it
abbrev pub numbers_placed : ℕ → ℕ → List Bytes → (ℕ → Read) → Read
numbers_placed n e [] k = k e
numbers_placed n e (w ∷ ws) k = number_placed n e (half_of w) (λ e'. numbers_placed n e' ws k)

abbrev pub content_placed : ℕ → ℕ → Says → (ℕ → Read) → Read
content_placed n a (a_word w) k = halfword_placed n (place_rule a w true) (k (a + 2))
content_placed n a (halfwords ws) k = numbers_placed n a ws k

-- a line places nothing below the end e of what lies before
abbrev pub entry_placed : ℕ → ℕ → Option (ℕ × Says) → (ℕ → Read) → Read
entry_placed n e None k = k e
entry_placed n e (Some p) k =
    if nat_lt p.0 e then Err (record { fault = Below; line = n })
    else content_placed n p.0 p.1 k

abbrev pub line_placed : ℕ → ℕ → Line → (ℕ → Read) → Read
line_placed n e (Err f) k = Err (record { fault = f; line = n })
line_placed n e (Ok o) k = entry_placed n e o k

-- each line goes on at the end of what the lines before it place
abbrev pub placing : Tables → LineRule ℕ Read
placing t = record {
  line = λ n e l k. line_placed n e (line_rule t (words (uncommented l))) k;
  end = λ n e. Ok [];
  unended = λ n. Err (record { fault = Unended; line = n });
}

-- what a listing places
abbrev pub listing : Tables → Bytes → Read
listing t s = rest_read (placing t) 0 (whole s)

-- what is left of a listing: the halfwords of the line in hand, and the lines after it
abbrev pub remaining : Tables → Listing → Read
remaining t r =
    numbers_placed r.line r.end (words r.rest.now) (λ e. rest_read (placing t) e r.lines)

-- the end of what was placed
abbrev pub end_of : Listing → ℕ
end_of r = r.end
