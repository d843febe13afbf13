-- The first vacant place, and the bay of a number.
use Rattle.std.proofs.Common.{◌≡◌, ℕ, zero, suc, ◌+◌, ◌<◌, Bool, is_some, false, cond, if◌then◌else◌, List, ◌∷◌, get_or, length, set, Some, None, Ok, Err, Option, refl, ap, ◌∙◌, sym, arith}
use lib.Seq.{set-get_or}
use Rattle.std.proofs.lemmas.Bool.Decides.{nat_tests}
use Rattle.std.proofs.lemmas.List.{get_or_default, get_or_past, set_past}
use Rattle.std.proofs.lemmas.List.Recursion.{is_position_or_len}
use Rattle.std.specs.List.{position, position_or_len}
use Rattle.std.specs.Option.{is_none}
use Rattle.access.specs.declared.rights.Grant.{Grant}
use Rattle.bays.specs.Bays.{bay_at, entered, free, numbered, place_of, put_bay}
use Rattle.bays.specs.Grants.{place, vacant}
use Rattle.bays.specs.Stages.{at_stage}
use Rattle.bays.specs.declared.bay.Bay.{Bay}
use Rattle.bays.specs.declared.refusal.Refusal.TheVariants.{OtherStage}
use Rattle.bays.specs.declared.stage.Stage.{Stage}
use Rattle.bays.specs.declared.stage.Stage.TheVariants.{Preparing, Sealed}

vacant_is : (gs : List (Option Grant)) → vacant gs ≡ position_or_len is_none gs
vacant_is gs = is_position_or_len vacant is_none refl next gs
  where
    next : (x : Option Grant) (xs : List (Option Grant)) → vacant (x ∷ xs) ≡ cond (is_none x) 0 (1 + vacant xs)
    next None xs = refl
    next (Some g) xs = omega arith

pub place_is : (gs : List (Option Grant)) → position is_none gs ≡ place gs
place_is gs = rw vacant_is

-- a bay put back as it was
pub put_same : (l : List Bay) (n : ℕ) → put_bay l n (bay_at l n) ≡ l
unfolding put_bay bay_at
put_same l zero = refl
put_same l (suc k) = set-get_or l k free

-- the bay of a number, by its place
pub at_place : (l : List Bay) (p n : ℕ) (d : Bay) → p < length l → p + 1 ≡ n → get_or l p d ≡ bay_at l n
unfolding bay_at
at_place l p zero d h e = absurd (omega arith)
at_place l p (suc k) d h e = get_or_default l p d free h ∙ ap (λ (i : ℕ). get_or l i free) (omega arith)

pub put_at : (l : List Bay) (p n : ℕ) (b : Bay) → p + 1 ≡ n → set l p b ≡ put_bay l n b
unfolding put_bay
put_at l p zero b e = absurd (omega arith)
put_at l p (suc k) b e = ap (λ (i : ℕ). set l i b) (omega arith)

-- a bay that is changed where it stands
pub changed_at : (f : Bay → Bay) (l : List Bay) (p n : ℕ) (b d : Bay) → p < length l → p + 1 ≡ n → b ≡ f (get_or l p d) → set l p b ≡ put_bay l n (f (bay_at l n))
changed_at f l p n b d h e g = put_at l p n b e ∙ ap (put_bay l n) (g ∙ ap f (at_place l p n d h e))

-- where no bay has the number, nothing is put
pub put_nowhere : (l : List Bay) (n : ℕ) (b : Bay) → length l ≡ 8 → place_of n ≡ None → l ≡ put_bay l n b
unfolding put_bay
put_nowhere l zero b h e = refl
put_nowhere l (suc k) b h e = sym (set_past l k b (grind (arith, nat_tests)))

-- a bay at a stage has a number
at_no_stage : (s : Stage) → at_stage s None ≡ false
at_no_stage Preparing = refl
at_no_stage Sealed = refl

nowhere : (l : List Bay) (n : ℕ) → length l ≡ 8 → place_of n ≡ None → bay_at l n ≡ free
unfolding bay_at
nowhere l zero h e = refl
nowhere l (suc k) h e = get_or_past l k free (grind (arith, nat_tests))

entered_nowhere : (s : Stage) (l : List Bay) (n : ℕ) → length l ≡ 8 → place_of n ≡ None → at_stage s (bay_at l n).stage ≡ false
entered_nowhere s l n h e = ap (λ (b : Bay). at_stage s b.stage) (nowhere l n h e) ∙ at_no_stage s

pub numbered_at : (l : List Bay) (p n : ℕ) (d : Bay) → p < length l → p + 1 ≡ n → Some p ≡ place_of n → Some (get_or l p d) ≡ numbered l n
numbered_at l p n d h e f = ap (λ (b : Bay). Some b) (at_place l p n d h e) ∙ ap (λ (o : Option ℕ). if is_some o then Some (bay_at l n) else None) f

pub entered_none : (s : Stage) (l : List Bay) (n : ℕ) → length l ≡ 8 → numbered l n ≡ None → Err OtherStage ≡ entered s l n
entered_none s l n h e = ap (λ (t : Bool). if t then Ok (bay_at l n) else Err OtherStage) (sym (entered_nowhere s l n h (by_place (place_of n) e)))
  where
    by_place : (o : Option ℕ) → (if is_some o then Some (bay_at l n) else None) ≡ None → o ≡ None
    by_place None e = refl
    by_place (Some p) e = cc
