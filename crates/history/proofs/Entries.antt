-- What the hall knows of its bays apart from their programs, and lists of bays with one bay put.
use Rattle.std.proofs.Common.{◌≡◌, ℕ, zero, suc, Bool, cond, ◌&&◌, ◌||◌, is_some, ◌≢◌, ◌⊎◌, List, [], ◌∷◌, length, get_or, set, Some, None, Option, sym, refl, ap, ◌∙◌, subst, inl, inr, arith}
use mathlib.Core.List.{map}
use lib.ListN.{get_or-map}
use lib.Seq.{map-set}
use Rattle.std.proofs.lemmas.List.{length-map}
use Rattle.std.specs.List.{list_any}
use Rattle.access.specs.declared.rights.Rights.{Rights}
use Rattle.access.specs.declared.rights.Grant.{Grant}
use Rattle.bays.specs.declared.bay.Bay.{Bay}
use Rattle.bays.specs.declared.stage.Stage.{Stage}
use Rattle.bays.specs.declared.stage.Stage.TheVariants.{Preparing}
use Rattle.bays.specs.declared.refusal.Refusal.TheVariants.{NoSuchBay, OtherStage, Taken}
use Rattle.bays.proofs.Lists.{put_same}
use Rattle.history.proofs.Basics.{get_set}
use Rattle.bays.specs.Bays.{bay_at, clash, free, place_of, put_bay, with_program}
use Rattle.bays.specs.Grants.{checked, clashes_any}
use Rattle.bays.specs.Stages.{at_stage, is_free}
use Rattle.history.specs.Calls.{Shared, close, grant, open_bay, seal}
use Rattle.history.specs.Hall.{Program, changed, program_of, refusal_of, verdict}

pub record Entry : Type 0 where
  pub stage : Option Stage
  pub rights : Rights

abbrev pub entry : Bay → Entry
entry b = record { stage = b.stage; rights = b.rights }

abbrev pub entries : List Bay → List Entry
entries l = map entry l

abbrev entry_at : List Entry → ℕ → Entry
entry_at l zero = entry free
entry_at l (suc k) = get_or l k (entry free)

abbrev put_entry : List Entry → ℕ → Entry → List Entry
put_entry l zero d = l
put_entry l (suc k) d = set l k d

abbrev clash_entries : Grant → List Entry → Bool
clash_entries g l = list_any (λ d. clashes_any g d.rights.grants) l

entry_of : (l : List Bay) (k : ℕ) → entry (bay_at l k) ≡ entry_at (entries l) k
unfolding bay_at
entry_of l zero = refl
entry_of l (suc k) = sym (get_or-map entry l k free)

put_entry_of : (l : List Bay) (k : ℕ) (b : Bay) → entries (put_bay l k b) ≡ put_entry (entries l) k (entry b)
unfolding put_bay
put_entry_of l zero b = refl
put_entry_of l (suc k) b = map-set entry l k b

clash_entry : (g : Grant) (l : List Bay) → clash g l ≡ clash_entries g (entries l)
clash_entry g [] = refl
clash_entry g (b ∷ l) = ap (λ (x : Bool). clashes_any g b.rights.grants || x) (clash_entry g l)

module _ (l m : List Bay) (e : entries l ≡ entries m) where
  pub same_entry : (k : ℕ) → entry (bay_at l k) ≡ entry (bay_at m k)
  same_entry k = entry_of l k ∙ ap (λ (x : List Entry). entry_at x k) e ∙ sym (entry_of m k)

  pub same_clash : (g : Grant) → clash g l ≡ clash g m
  same_clash g = clash_entry g l ∙ ap (clash_entries g) e ∙ sym (clash_entry g m)

  pub same_length : length l ≡ length m
  same_length = sym (length-map l entry) ∙ ap length e ∙ length-map m entry

  pub same_put : (k : ℕ) (b c : Bay) → entry b ≡ entry c → entries (put_bay l k b) ≡ entries (put_bay m k c)
  same_put k b c f = put_entry_of l k b ∙ (λ i. put_entry (e i) k (f i)) ∙ sym (put_entry_of m k c)

  pub same_verdict : (k : ℕ) (s : Stage) (o : Shared) → verdict k s o l ≡ verdict k s o m
  same_verdict k s open_bay = λ i. cond (is_some (place_of k)) (cond (is_free (same_entry k i).stage) None (Some Taken)) (Some NoSuchBay)
  same_verdict k s (grant g) = λ i.
      cond (at_stage Preparing (same_entry k i).stage) (refusal_of (checked g (same_entry k i).rights.grants (same_clash g i))) (Some OtherStage)
  same_verdict k s seal = λ i. cond (at_stage Preparing (same_entry k i).stage) None (Some OtherStage)
  same_verdict k s close = λ i. cond (at_stage s (same_entry k i).stage) None (Some OtherStage)

-- a program put into its bay
pub changed_entries : (l : List Bay) (k : ℕ) (o : Option Program) → entries (changed o l k) ≡ entries l
changed_entries l k None = refl
changed_entries l k (Some p) = same_put l l refl k (with_program (bay_at l k) p.registers p.stop) (bay_at l k) refl ∙ ap entries (put_same l k)

pub get_put : (x : Bay) (l : List Bay) (i j : ℕ) → ((j ≡ i) × (bay_at (put_bay l i x) j ≡ x)) ⊎ (bay_at (put_bay l i x) j ≡ bay_at l j)
unfolding bay_at put_bay
get_put x l zero j = inr refl
get_put x l (suc i) zero = inr refl
get_put x l (suc i) (suc j) = elim (get_set free x l i j) [ inl p ↦ inl (ap suc p.0, p.1) | inr e ↦ inr e ]

pub get_put_other : (x : Bay) (l : List Bay) (i j : ℕ) → j ≢ i → bay_at (put_bay l i x) j ≡ bay_at l j
get_put_other x l i j n = elim (get_put x l i j) [ inl p ↦ absurd (n p.0) | inr e ↦ e ]

program_set : (b c : Bay) (l m : List Bay) (i j : ℕ) → length l ≡ length m → program_of b ≡ program_of c → program_of (get_or l j free) ≡ program_of (get_or m j free) → program_of (get_or (set l i b) j free) ≡ program_of (get_or (set m i c) j free)
program_set b c [] [] i j n f e = e
program_set b c [] (y ∷ m) i j n f e = absurd (omega arith)
program_set b c (x ∷ l) [] i j n f e = absurd (omega arith)
program_set b c (x ∷ l) (y ∷ m) zero zero n f e = f
program_set b c (x ∷ l) (y ∷ m) zero (suc j) n f e = e
program_set b c (x ∷ l) (y ∷ m) (suc i) zero n f e = e
program_set b c (x ∷ l) (y ∷ m) (suc i) (suc j) n f e = program_set b c l m i j (omega arith) f e

pub program_put : (b c : Bay) (l m : List Bay) (i j : ℕ) → length l ≡ length m → program_of b ≡ program_of c → program_of (bay_at l j) ≡ program_of (bay_at m j) → program_of (bay_at (put_bay l i b) j) ≡ program_of (bay_at (put_bay m i c) j)
unfolding bay_at put_bay
program_put b c l m zero j n f e = e
program_put b c l m (suc i) zero n f e = e
program_put b c l m (suc i) (suc j) n f e = program_set b c l m i j n f e

pub changed_other : (o : Option Program) (l : List Bay) (k j : ℕ) → j ≢ k → bay_at (changed o l k) j ≡ bay_at l j
changed_other None l k j n = refl
changed_other (Some p) l k j n = get_put_other (with_program (bay_at l k) p.registers p.stop) l k j n

pub changed_program : (o q : Option Program) (l m : List Bay) (k : ℕ) → length l ≡ length m → o ≡ q → program_of (bay_at l k) ≡ program_of (bay_at m k) → program_of (bay_at (changed o l k) k) ≡ program_of (bay_at (changed q m k) k)
changed_program o q l m k n e s = subst (λ (x : Option Program). program_of (bay_at (changed o l k) k) ≡ program_of (bay_at (changed x m k) k)) e (on o)
  where
    on : (o : Option Program) → program_of (bay_at (changed o l k) k) ≡ program_of (bay_at (changed o m k) k)
    on None = s
    on (Some p) = program_put (with_program (bay_at l k) p.registers p.stop) (with_program (bay_at m k) p.registers p.stop) l m k k n refl s
