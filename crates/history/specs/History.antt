-- Words for histories: which calls are accepted, what is granted, what is struck out, what is a rearrangement.
use Rattle.std.specs.Prelude.{◌≡◌, ℕ, Bool, true, false, cond, not, ◌&&◌, ◌||◌, ◌≢◌, List, [], ◌∷◌, ◌==◌}
use Rattle.bays.specs.Grants.{has}
use Rattle.bays.specs.declared.stage.Stage.{Stage}
use Rattle.access.specs.Kinds.{permits}
use Rattle.access.specs.declared.kind.Use.TheVariants.{Clear}
use Rattle.history.specs.Calls.{Act, Answer, Call, Own, close, copied, done, grant, open_bay, own, refused, seal, shared, shown, turned}
use Rattle.history.specs.Hall.{Hall, apply}

-- the hall after a history
abbrev pub after : List Call → Hall → Hall
after [] H = H
after (c ∷ h) H = after h (apply c H).hall

-- the answers to all calls of a history
abbrev pub answers : List Call → Hall → List Answer
answers [] H = []
answers (c ∷ h) H = (apply c H).answer ∷ answers h (apply c H).hall

-- the answers to the calls of the bay w
abbrev pub heard : ℕ → List Call → Hall → List Answer
heard w [] H = []
heard w (c ∷ h) H = cond (c.bay == w) ((apply c H).answer ∷ heard w h (apply c H).hall) (heard w h (apply c H).hall)

-- the loads, sets, turns, looks and copies of every bay but w are struck out
abbrev pub keeps_act : ℕ → ℕ → Act → Bool
keeps_act w k (own i) = k == w
keeps_act w k (shared o) = true

abbrev pub keeps : ℕ → Call → Bool
keeps w c = keeps_act w c.bay c.act

abbrev pub struck : ℕ → List Call → List Call
struck w [] = []
struck w (c ∷ h) = cond (keeps w c) (c ∷ struck w h) (struck w h)

abbrev pub not_refused : Answer → Bool
not_refused (refused n) = false
not_refused done = true
not_refused (turned n s) = true
not_refused (shown r t) = true
not_refused (copied l) = true

-- the call is one of the bay w and is not refused
abbrev pub accepted : ℕ → Call → Hall → Bool
accepted w c H = c.bay == w && not_refused (apply c H).answer

-- it is a grant that has the byte, of any kind or an exclusive one
abbrev pub grants_byte : ℕ → Act → Bool
grants_byte at (own i) = false
grants_byte at (shared open_bay) = false
grants_byte at (shared (grant g)) = has g at
grants_byte at (shared seal) = false
grants_byte at (shared close) = false

abbrev pub grants_exclusively : ℕ → Act → Bool
grants_exclusively at (own i) = false
grants_exclusively at (shared open_bay) = false
grants_exclusively at (shared (grant g)) = permits g.kind Clear && has g at
grants_exclusively at (shared seal) = false
grants_exclusively at (shared close) = false

abbrev pub is_close : Act → Bool
is_close (own i) = false
is_close (shared open_bay) = false
is_close (shared (grant g)) = false
is_close (shared seal) = false
is_close (shared close) = true

-- the byte is granted to w by an accepted grant of the history
abbrev pub granted : ℕ → ℕ → List Call → Hall → Bool
granted w at [] H = false
granted w at (c ∷ h) H = (grants_byte at c.act && accepted w c H) || granted w at h (apply c H).hall

-- the same, by an exclusive grant
abbrev pub granted_exclusively : ℕ → ℕ → List Call → Hall → Bool
granted_exclusively w at [] H = false
granted_exclusively w at (c ∷ h) H = (grants_exclusively at c.act && accepted w c H) || granted_exclusively w at h (apply c H).hall

-- the byte is under an exclusive grant of w at the end, until a close of w is accepted; u says whether it was at the start
abbrev pub under_exclusive : ℕ → ℕ → Bool → List Call → Hall → Bool
under_exclusive w at u [] H = u
under_exclusive w at u (c ∷ h) H =
    under_exclusive w at ((u || (grants_exclusively at c.act && accepted w c H)) && not (is_close c.act && accepted w c H)) h (apply c H).hall

-- each bay's calls keep their order, and none passes an open, grant, seal or close
abbrev pub Rearranged : List Call → List Call → Type 0
Rearranged h m = (w : ℕ) → struck w h ≡ struck w m

-- the same by exchanges of neighbours that are loads, sets, turns, looks and copies of different bays
pub data Exchanged : List Call → List Call → Type 0 where
  same : {h : List Call} → Exchanged h h
  keep : {h m : List Call} (c : Call) → Exchanged h m → Exchanged (c ∷ h) (c ∷ m)
  exchange : {h : List Call} (j k : ℕ) (s t : Stage) (x y : Own) → j ≢ k
      → Exchanged (record { bay = j; held = s; act = own x } ∷ record { bay = k; held = t; act = own y } ∷ h) (record { bay = k; held = t; act = own y } ∷ record { bay = j; held = s; act = own x } ∷ h)
  twice : {h m n : List Call} → Exchanged h m → Exchanged m n → Exchanged h n
