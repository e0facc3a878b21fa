-- What callers may need of the definition.
use Rattle.std.proofs.Common.{◌≡◌, ℕ, ◌*◌, List, length, drop, ap, sym, ◌∙◌, refl}
use Rattle.std.specs.Simd.{first_chunks}
use Rattle.epic_aes.specs.Chain.{block_sum, chain}
use Rattle.epic_aes.proofs.CipherFacts.{length-aes}
use Rattle.epic_cmac.specs.Cmac.{zero_block, last_block, count_before_last, cmac}
use Rattle.epic_cmac.proofs.BlockLemmas.{tag-cmac}

-- a tag has 16 bytes
pub length-cmac : (key message : List ℕ) → length (cmac key message) ≡ 16
length-cmac key message =
    let count = count_before_last message in
    let x = chain key zero_block (first_chunks 16 count message) in
    let rest = drop (16 * count) message in
    ap length (sym (tag-cmac key message x rest count refl refl refl)) ∙ length-aes key (block_sum x (last_block key rest))
