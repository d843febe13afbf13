-- A rearrangement leaves every bay its own history.
use Rattle.std.proofs.Common.{◌≡◌, ℕ, Bool, true, false, cond, T, eqb, List, ◌∷◌, sym, refl, ap, ◌∙◌, eqb→eq}
use Rattle.history.specs.Calls.{Call}
use Rattle.history.specs.History.{Exchanged, exchange, keep, keeps, same, struck, twice}

crossed : (c d : Call) (m : List Call) (x y : Bool) → (T x → T y → ⊥)
    → cond x (c ∷ cond y (d ∷ m) m) (cond y (d ∷ m) m) ≡ cond y (d ∷ cond x (c ∷ m) m) (cond x (c ∷ m) m)
crossed c d m true true n = absurd (n tt tt)
crossed c d m true false n = refl
crossed c d m false true n = refl
crossed c d m false false n = refl

pub rearranged : (w : ℕ) {h m : List Call} → Exchanged h m → struck w h ≡ struck w m
rearranged w same = refl
rearranged w (keep c r) = ap (λ (l : List Call). cond (keeps w c) (c ∷ l) l) (rearranged w r)
rearranged w (exchange {h = h} j k s t x y n) = crossed _ _ (struck w h) (eqb j w) (eqb k w) (λ p q. n (eqb→eq j w p ∙ sym (eqb→eq k w q)))
rearranged w (twice r q) = rearranged w r ∙ rearranged w q
