-- The laws of every history, over every store and every book.
use Rattle.std.specs.Prelude.{◌≡◌, ℕ, Bool, false, T, List, length, slice_index}
use Rattle.book.specs.declared.tables.Tables.{Tables}
use Rattle.history.specs.Calls.{Call}
use Rattle.history.specs.Hall.{Hall, new, over}
use Rattle.history.specs.History.{Exchanged, Rearranged, after, answers, granted, granted_exclusively, heard, struck, under_exclusive}

-- a bay's answers depend on its own calls and granted bytes alone: two histories that leave the same list when the
-- other bays' loads, sets, turns, looks and copies are struck out, over stores that agree on the bytes granted to it
abbrev pub Isolation : Type 0
Isolation =
    (b : Tables) (w : ℕ) (h h' : List Call) (s s' : List ℕ) → length s ≡ 65536 → length s' ≡ 65536
    → struck w h ≡ struck w h'
    → ((at : ℕ) → T (granted w at h (new b s)) → slice_index s at ≡ slice_index s' at)
    → heard w h (new b s) ≡ heard w h' (new b s')

-- the order between bays does not matter: each call's answer and the last bytes are the same
abbrev pub Order : Type 0
Order =
    (b : Tables) (h h' : List Call) (s : List ℕ) → Rearranged h h'
    → ((w : ℕ) → heard w h (new b s) ≡ heard w h' (new b s)) × ((after h (new b s)).bytes ≡ (after h' (new b s)).bytes)

abbrev pub Exchange : Type 0
Exchange =
    (b : Tables) (h h' : List Call) (s : List ℕ) → Exchanged h h'
    → ((w : ℕ) → heard w h (new b s) ≡ heard w h' (new b s)) × ((after h (new b s)).bytes ≡ (after h' (new b s)).bytes)

-- a byte never under an accepted exclusive grant is as it was new; one that was once, and is now under none, is zero
abbrev pub Confinement : Type 0
Confinement =
    (b : Tables) (h : List Call) (s : List ℕ) (at : ℕ)
    → (((k : ℕ) → T (granted_exclusively k at h (new b s)) → ⊥) → slice_index (after h (new b s)).bytes at ≡ slice_index s at)
    × ((k : ℕ) → T (granted_exclusively k at h (new b s))
    → ((j : ℕ) → T (under_exclusive j at false h (new b s)) → ⊥)
    → slice_index (after h (new b s)).bytes at ≡ 0)

-- what the store stands on matters to no call, and no call changes it
abbrev pub AnyFooting : Type 0
AnyFooting =
    (m : List ℕ) (h : List Call) (H : Hall)
    → (answers h (over m H) ≡ answers h H) × (after h (over m H) ≡ over m (after h H))

-- nor does it matter to what a bay hears, and to what is granted: so the laws above, of new halls, are laws of the halls over every store
abbrev pub FootingUnheard : Type 0
FootingUnheard =
    (m : List ℕ) (h : List Call) (H : Hall) (w at : ℕ) (u : Bool)
    → (heard w h (over m H) ≡ heard w h H)
    × ((granted w at h (over m H) ≡ granted w at h H)
    × ((granted_exclusively w at h (over m H) ≡ granted_exclusively w at h H)
    × (under_exclusive w at u h (over m H) ≡ under_exclusive w at u h H)))
