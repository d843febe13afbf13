use Rattle.std.proofs.Common.{◌≡◌, ℕ, ◌+◌, ◌/◌, ◌%◌, ◌<◌, ◌≤◌, Bool, true, false, cond, eqb, ltb, ◌≢◌, List, [], ◌∷◌, length, get_or, set, Some, None, Ok, Err, Option, Result, sym, refl, ap, ◌∙◌, subst, arith}
use Rattle.std.specs.Prelude.{option_and_then}
use Rattle.std.proofs.lemmas.List.{length-set, get_or-set_same, get_or-set_other}
use Rattle.std.proofs.lemmas.Bool.{cond_both, ltb-true, ltb-false, eqb-true}
use Rattle.std.specs.Option.{ok_or}
use Rattle.text.specs.Lines.{whole}
use Rattle.text.specs.Results.{◌>>=◌}
use Rattle.text.specs.Search.{Bytes}
use Rattle.text.proofs.Reading.{rest_read-holds}
use Rattle.book.specs.declared.tables.Tables.{Tables}
use Rattle.listing.specs.declared.fault.Fault.{Fault}
use Rattle.listing.specs.declared.fault.Fault.TheVariants.{Address, Below, Past}
use Rattle.listing.specs.declared.placed.Placed.{Placed}
use Rattle.text.specs.Numbers.{number_of}
use Rattle.listing.specs.Numbers.{half_of, address_of}
use Rattle.listing.specs.Words.{words, uncommented}
use Rattle.listing.specs.Line.{Says, a_word, halfwords, Line, content_of, after_address, line_rule}
use Rattle.listing.specs.Listing.{Read, placed_before, place_rule, halfword_placed, number_placed, numbers_placed, content_placed, line_placed, placing, listing}
use Rattle.listing.specs.Assembled.{with_placed, with_all, bytes_after}
use Rattle.listing.specs.Laws.{IsRising, AreFound, IsApart, IsLaid}

abbrev Risen : ℕ → Read → Type 0
Risen e (Err f) = Unit {0}
Risen e (Ok ps) = IsRising e ps

-- every even address that the lines after this one may start from serves them
abbrev Serves : (ℕ → Read) → Type 0
Serves k = (e : ℕ) → e % 2 ≡ 0 → Risen e (k e)

more_risen : (p : Placed) (e : ℕ) (r : Read) → e ≤ p.address → p.address % 2 ≡ 0 → p.address < 65536 → Risen (p.address + 2) r → Risen e (placed_before p r)
more_risen p e (Ok ps) a b c h = (a, b, c, h)
more_risen p e (Err f) a b c h = tt

weaker : (e e' : ℕ) (r : Read) → e ≤ e' → Risen e' r → Risen e r
weaker e e' (Err f) le h = tt
weaker e e' (Ok []) le h = tt
weaker e e' (Ok (p ∷ ps)) le h = (omega (arith, h.0), h.1, h.2, h.3)

placed_risen : (n e h : ℕ) (c : Bool) (r : Read) → e % 2 ≡ 0 → Risen (e + 2) r → Risen e (halfword_placed n (place_rule e h c) r)
placed_risen n e h c r ev g =
    let p : Placed = record { address = e; halfword = h; code = c } in
    cond_both (ltb e 65536) (Ok p) (Err Past) (λ v. Risen e (halfword_placed n v r)) (λ b. more_risen p e r (omega arith) ev (ltb-true e 65536 b) g) (λ _. tt)

half_risen : (n e : ℕ) (o : Option ℕ) (k : ℕ → Read) → e % 2 ≡ 0 → Risen (e + 2) (k (e + 2)) → Risen e (number_placed n e o k)
half_risen n e None k ev h = tt
half_risen n e (Some v) k ev h = placed_risen n e v false (k (e + 2)) ev h

halfs_risen : (n e : ℕ) (ws : List Bytes) (k : ℕ → Read) → e % 2 ≡ 0 → Serves k → Risen e (numbers_placed n e ws k)
halfs_risen n e [] k ev g = g e ev
halfs_risen n e (w ∷ ws) k ev g =
    let up : (e + 2) % 2 ≡ 0 = omega arith in
    half_risen n e (half_of w) (λ e'. numbers_placed n e' ws k) ev (halfs_risen n (e + 2) ws k up g)

content_risen : (n a : ℕ) (x : Says) (k : ℕ → Read) → a % 2 ≡ 0 → Serves k → Risen a (content_placed n a x k)
content_risen n a (a_word w) k ev g = let up : (a + 2) % 2 ≡ 0 = omega arith in placed_risen n a w true (k (a + 2)) ev (g (a + 2) up)
content_risen n a (halfwords ws) k ev g = halfs_risen n a ws k ev g

abbrev EvenAddress : Option ℕ → Type 0
EvenAddress None = Unit {0}
EvenAddress (Some a) = a % 2 ≡ 0

abbrev EvenEntry : Option (ℕ × Says) → Type 0
EvenEntry None = Unit {0}
EvenEntry (Some p) = p.0 % 2 ≡ 0

abbrev EvenLine : Line → Type 0
EvenLine (Err f) = Unit {0}
EvenLine (Ok o) = EvenEntry o

number_even : (o : Option ℕ) → EvenAddress (option_and_then (λ n. cond (eqb (n % 2) 0) (Some n) None) o)
number_even None = tt
number_even (Some n) = cond_both (eqb (n % 2) 0) (Some n) None EvenAddress (λ b. eqb-true (n % 2) 0 b) (λ _. tt)

at_even : (a : ℕ) (r : Result Says Fault) → a % 2 ≡ 0 → EvenLine (r >>= λ says. Ok (Some (a, says)))
at_even a (Err f) ev = tt
at_even a (Ok x) ev = ev

from_even : (t : Tables) (o : Option ℕ) (ws : List Bytes) → EvenAddress o → EvenLine (ok_or o Address >>= λ a. after_address t a ws)
from_even t None ws ev = tt
from_even t (Some a) [] ev = tt
from_even t (Some a) (w ∷ ws) ev = at_even a (content_of t w ws) ev

line_even : (t : Tables) (ws : List Bytes) → EvenLine (line_rule t ws)
line_even t [] = tt
line_even t (w ∷ ws) = from_even t (address_of w) ws (number_even (number_of 0 65535 w))

line_risen : (n e : ℕ) (l : Line) (k : ℕ → Read) → e % 2 ≡ 0 → EvenLine l → Serves k → Risen e (line_placed n e l k)
line_risen n e (Err f) k ev h g = tt
line_risen n e (Ok None) k ev h g = g e ev
line_risen n e (Ok (Some p)) k ev h g = cond_both (ltb p.0 e) (Err (record { fault = Below; line = n })) (content_placed n p.0 p.1 k) (Risen e) (λ _. tt) (λ b. weaker e p.0 (content_placed n p.0 p.1 k) (ltb-false p.0 e b) (content_risen n p.0 p.1 k h g))

abbrev RisenIfEven : ℕ → Read → Type 0
RisenIfEven e r = e % 2 ≡ 0 → Risen e r

listing_risen : (t : Tables) (s : Bytes) → Risen 0 (listing t s)
listing_risen t s =
    rest_read-holds (placing t) RisenIfEven (λ n e _. tt) (λ n e _. tt) (λ n e l k after ev. line_risen n e (line_rule t (words (uncommented l))) k ev (line_even t (words (uncommented l))) after) 0 (whole s) refl

-- the two bytes of a halfword, neither of which lies past the end
wrote_is : (bs : List ℕ) (p : Placed) → p.address % 2 ≡ 0 → p.address < 65536 → with_placed bs p ≡ set (set bs p.address (p.halfword / 256)) (p.address + 1) (p.halfword % 256)
wrote_is bs p ev h =
    let e : (p.address + 1) % 65536 ≡ p.address + 1 = omega arith in
    ap (λ (i : ℕ). set (set bs p.address (p.halfword / 256)) i (p.halfword % 256)) e

wrote_other : (bs : List ℕ) (p : Placed) (i : ℕ) → p.address % 2 ≡ 0 → p.address < 65536 → i ≢ p.address → i ≢ p.address + 1 → get_or (with_placed bs p) i 0 ≡ get_or bs i 0
wrote_other bs p i ev h a b =
    ap (λ (v : List ℕ). get_or v i 0) (wrote_is bs p ev h) ∙ get_or-set_other (set bs p.address (p.halfword / 256)) (p.address + 1) i (p.halfword % 256) 0 b ∙ get_or-set_other bs p.address i (p.halfword / 256) 0 a

wrote_length : (bs : List ℕ) (p : Placed) → length (with_placed bs p) ≡ length bs
wrote_length bs p = length-set (set bs p.address (p.halfword / 256)) ((p.address + 1) % 65536) (p.halfword % 256) ∙ length-set bs p.address (p.halfword / 256)

wrote_high : (bs : List ℕ) (p : Placed) → p.address % 2 ≡ 0 → p.address < 65536 → length bs ≡ 65536 → get_or (with_placed bs p) p.address 0 ≡ p.halfword / 256
wrote_high bs p ev h l =
    let ne : p.address ≢ p.address + 1 = λ e. omega arith in
    let lt : p.address < length bs = omega arith in
    ap (λ (v : List ℕ). get_or v p.address 0) (wrote_is bs p ev h) ∙ get_or-set_other (set bs p.address (p.halfword / 256)) (p.address + 1) p.address (p.halfword % 256) 0 ne ∙ get_or-set_same bs p.address (p.halfword / 256) 0 lt

wrote_low : (bs : List ℕ) (p : Placed) → p.address % 2 ≡ 0 → p.address < 65536 → length bs ≡ 65536 → get_or (with_placed bs p) (p.address + 1) 0 ≡ p.halfword % 256
wrote_low bs p ev h l =
    let m = length-set bs p.address (p.halfword / 256) in
    let lt : p.address + 1 < length (set bs p.address (p.halfword / 256)) = omega arith in
    ap (λ (v : List ℕ). get_or v (p.address + 1) 0) (wrote_is bs p ev h) ∙ get_or-set_same (set bs p.address (p.halfword / 256)) (p.address + 1) (p.halfword % 256) 0 lt

others_stay : (bs : List ℕ) (e : ℕ) (ps : List Placed) → IsRising e ps → (i : ℕ) → IsApart i ps → get_or (with_all bs ps) i 0 ≡ get_or bs i 0
others_stay bs e [] r i a = refl
others_stay bs e (p ∷ ps) r i a = others_stay (with_placed bs p) (p.address + 2) ps r.3 i a.2 ∙ wrote_other bs p i r.1 r.2 a.0 a.1

below_apart : (e : ℕ) (ps : List Placed) → IsRising e ps → (i : ℕ) → i < e → IsApart i ps
below_apart e [] r i h = tt
below_apart e (p ∷ ps) r i h =
    let le : e ≤ p.address = r.0 in
    (λ q. omega arith, λ q. omega arith, below_apart (p.address + 2) ps r.3 i (omega arith))

all_found : (bs : List ℕ) (e : ℕ) (ps : List Placed) → IsRising e ps → length bs ≡ 65536 → AreFound ps (with_all bs ps)
all_found bs e [] r l = tt
all_found bs e (p ∷ ps) r l =
    let a = p.address in
    let high = below_apart (a + 2) ps r.3 a (omega arith) in
    let low = below_apart (a + 2) ps r.3 (a + 1) (omega arith) in
    (others_stay (with_placed bs p) (a + 2) ps r.3 a high ∙ wrote_high bs p r.1 r.2 l, others_stay (with_placed bs p) (a + 2) ps r.3 (a + 1) low ∙ wrote_low bs p r.1 r.2 l, all_found (with_placed bs p) (a + 2) ps r.3 (wrote_length bs p ∙ l))

laid_by : (r : Read) (bs : List ℕ) → Risen 0 r → length bs ≡ 65536 → IsLaid r bs (bytes_after bs r)
laid_by (Err f) bs g l = refl
laid_by (Ok ps) bs g l = (g, all_found bs 0 ps g l, others_stay bs 0 ps g)

pub laid : (t : Tables) (s : Bytes) (old new : List ℕ) → length old ≡ 65536 → new ≡ bytes_after old (listing t s) → IsLaid (listing t s) old new
laid t s old new l e = subst (IsLaid (listing t s) old) (sym e) (laid_by (listing t s) old (listing_risen t s) l)
