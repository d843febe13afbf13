-- Each name of format A forms its operand's address for its item, and then reads or stores that item.
use Rattle.std.proofs.Common.{ℕ, ◌%◌, refl, inl, inr, bit_and}
use Rattle.std.specs.Int.{w16, w32}
use Rattle.word.specs.Arithmetic.{difference, product, quotient, resized, sum}
use Rattle.machine.specs.Act.{Act}
use Rattle.machine.specs.Instructions.{stored_byte, stored_full, stored_half, stored_x}
use Rattle.machine.specs.Registers.{computed_a, computed_x, divided, linked, loaded_a, loaded_x, marked, minus, plus, with_s, with_y, with_z}
use Rattle.turns.specs.Laws.{OperandsByName}

-- in the order of the names
pub operands_by_name : OperandsByName
operands_by_name = (
  inl (λ t r. (λ (v : ℕ). loaded_a r v, λ v. refl)),
  (
    inl (λ t r. (λ (v : ℕ). loaded_a r (resized w32 w16 v), λ v. refl)),
    (
      inl (λ t r. (λ (v : ℕ). loaded_a r v, λ v. refl)),
      (
        inl (λ t r. (λ (v : ℕ). loaded_x r v, λ v. refl)),
        (
          inr (λ t r. (r.a % 256, (stored_byte r, λ v. refl))),
          (
            inr (λ t r. (r.a % 65536, (stored_half r, λ v. refl))),
            (
              inr (λ t r. (r.a, (stored_full r, λ v. refl))),
              (
                inr (λ t r. (r.x, (stored_x r, λ v. refl))),
                (
                  inl (λ t r. (λ (v : ℕ). computed_a r (sum w32 w16 r.a v), λ v. refl)),
                  (
                    inl (λ t r. (λ (v : ℕ). computed_a r (sum w32 w32 r.a v), λ v. refl)),
                    (
                      inl (λ t r. (λ (v : ℕ). computed_a r (difference w32 w16 r.a v), λ v. refl)),
                      (
                        inl (λ t r. (λ (v : ℕ). computed_a r (difference w32 w32 r.a v), λ v. refl)),
                        (
                          inl (λ t r. (λ (v : ℕ). computed_x r (sum w16 w16 r.x v), λ v. refl)),
                          (
                            inl (λ t r. (λ (v : ℕ). computed_x r (difference w16 w16 r.x v), λ v. refl)),
                            (
                              inl (λ t r. (λ (v : ℕ). marked r (difference w32 w16 r.a v), λ v. refl)),
                              (
                                inl (λ t r. (λ (v : ℕ). marked r (difference w32 w32 r.a v), λ v. refl)),
                                (
                                  inl (λ t r. (λ (v : ℕ). marked r (difference w16 w16 r.x v), λ v. refl)),
                                  (
                                    inl (λ t r. (λ (v : ℕ). loaded_a r (bit_and r.a v), λ v. refl)),
                                    (
                                      inl (λ t r. (λ (v : ℕ). loaded_x r (bit_and r.x v), λ v. refl)),
                                      (
                                        inl (λ t r. (λ (v : ℕ). computed_x r (product w16 r.x v r.ca), λ v. refl)),
                                        (
                                          inl (λ t r. (λ (v : ℕ). divided r (quotient r.x v), λ v. refl)),
                                          (
                                            inl (λ t r. (λ (v : ℕ). with_y r v, λ v. refl)),
                                            (
                                              inr (λ t r. (r.y, (r, λ v. refl))),
                                              (
                                                inl (λ t r. (λ (v : ℕ). with_y r (plus r.y v), λ v. refl)),
                                                (
                                                  inl (λ t r. (λ (v : ℕ). with_y r (minus r.y v), λ v. refl)),
                                                  (
                                                    inl (λ t r. (λ (v : ℕ). with_z r v, λ v. refl)),
                                                    (
                                                      inr (λ t r. (r.z, (r, λ v. refl))),
                                                      (
                                                        inl (λ t r. (λ (v : ℕ). with_z r (plus r.z v), λ v. refl)),
                                                        (
                                                          inl (λ t r. (λ (v : ℕ). with_z r (minus r.z v), λ v. refl)),
                                                          (
                                                            inl (λ t r. (λ (v : ℕ). with_s r v, λ v. refl)),
                                                            (
                                                              inl (λ t r. (λ (v : ℕ). with_s (linked r) v, λ v. refl)),
                                                              tt,
                                                            ),
                                                          ),
                                                        ),
                                                      ),
                                                    ),
                                                  ),
                                                ),
                                              ),
                                            ),
                                          ),
                                        ),
                                      ),
                                    ),
                                  ),
                                ),
                              ),
                            ),
                          ),
                        ),
                      ),
                    ),
                  ),
                ),
              ),
            ),
          ),
        ),
      ),
    ),
  ),
)
