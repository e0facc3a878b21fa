-- Cipher block chaining, of which block cipher MACs are made (ISO/IEC 9797-1; RFC 4493 2.4, step 6).
use Rattle.std.specs.Prelude.{ℕ, List, fold}
use Rattle.epic_aes.specs.Cipher.{add_round_key, aes}

-- the sum of two blocks, byte by byte, as a round key is added to a state
unfoldable pub block_sum : List ℕ → List ℕ → List ℕ
block_sum a b = add_round_key a b

-- what x becomes when each block in turn is added to it and the sum encrypted
unfoldable pub chain : List ℕ → List ℕ → List (List ℕ) → List ℕ
chain key x blocks = fold (λ y block. aes key (block_sum y block)) x blocks
