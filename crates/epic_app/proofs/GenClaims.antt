-- What the two lines of `gen` claim.
use Rattle.std.proofs.Common.{◌≡◌, ℕ, zero, suc, ◌<◌, ◌≤◌, true, List, [], ◌∷◌, refl, arith}
use Rattle.std.specs.List.{All}
use Rattle.std.specs.Prelude.{⊤}
use Rattle.std.proofs.lemmas.List.Elements.{All-cons, All-nil}
use Rattle.hex.specs.Hex.{IsBytes as AreBytes}
use Rattle.epic_num.specs.declared.command.Command.{Command}
use Rattle.epic_num.specs.declared.hop.Level.{Level}
use Rattle.epic_num.specs.declared.hop.Level.TheVariants.{L0, L1, L2, L3}
use Rattle.epic_num.specs.Levels.{first_byte, is_first_byte, level_number}
use Rattle.epic_layout.specs.Contents.{IsBytes}
use Rattle.epic_model.specs.World.{Fits}
use Rattle.epic_gen.specs.Names.{payload_of}
use Rattle.epic_gen.specs.Script.{generated, head_commands, level_at, packet_commands}
use Rattle.epic_gen.proofs.Made.{payload_bytes}
use Rattle.epic_gen.proofs.Places.{generated_all}

-- a list whose commands' parts fit their types
abbrev EachFits : List Command → Type 0
EachFits [] = ⊤
EachFits (c ∷ cs) = Fits c × EachFits cs

all_each : (cs : List Command) → EachFits cs → All Fits cs
all_each [] each = All-nil Fits
all_each (c ∷ cs) (here, more) = All-cons Fits c cs here (all_each cs more)

head_fits : All Fits head_commands
unfolding head_commands
head_fits =
    all_each head_commands (
      omega arith,
      (
        (omega arith, omega arith),
        (
          (omega arith, omega arith),
          (
            (omega arith, omega arith),
            (
              (omega arith, omega arith),
              (
                (omega arith, omega arith),
                (
                  (omega arith, omega arith),
                  (
                    (omega arith, omega arith),
                    (
                      (omega arith, omega arith),
                      (
                        tt,
                        (
                          tt,
                          (
                            tt,
                            (
                              tt,
                              (
                                tt,
                                tt,
                              ),
                            ),
                          ),
                        ),
                      ),
                    ),
                  ),
                ),
              ),
            ),
          ),
        ),
      ),
    )

-- packets are of a level that exists
level_exists : (level : Level) → is_first_byte (first_byte 1 level) ≡ true
unfolding is_first_byte first_byte level_number
level_exists L0 = refl
level_exists L1 = refl
level_exists L2 = refl
level_exists L3 = refl

-- and their payloads are bytes
bytes_of : (xs : List ℕ) → AreBytes xs → IsBytes xs
bytes_of [] are = All-nil (λ b. b < 256)
bytes_of (x ∷ xs) are = All-cons (λ b. b < 256) x xs (are zero) (bytes_of xs (λ i. are (suc i)))

packet_fits : (seed k : ℕ) → k ≤ 100000 → All Fits (packet_commands seed k)
unfolding packet_commands
packet_fits seed k low =
    all_each (packet_commands seed k) (
      omega (arith, low),
      ((level_exists (level_at k), (record { asn = omega arith; host = omega arith }, (record { asn = omega arith; host = omega arith }, bytes_of (payload_of seed k) (payload_bytes seed k)))), (tt, tt)),
    )

pub all_fit : (seed packets : ℕ) → packets ≤ 100000 → All Fits (generated seed packets)
all_fit seed packets few = generated_all Fits seed packets head_fits (λ k low. packet_fits seed k (omega arith))
