-- Answers that are told apart.
use Rattle.std.proofs.Common.{◌≡◌, Bool, true, false, cond, Option, Some, None, Result, Ok, Err, refl}
use Rattle.epic_capture.specs.Records.{Captured}
use Rattle.epic_pcapng.specs.declared.block.Head.{Head}
use Rattle.epic_pcapng.specs.declared.damage.NgError.{NgError}
use Rattle.epic_pcapng.specs.Grammar.{Block}

abbrev pub head_error : NgError → Result Head NgError
head_error e = Err e

abbrev pub end_error : NgError → Result (Unit {0}) NgError
end_error e = Err e

abbrev pub block_error : NgError → Result Block NgError
block_error e = Err e

abbrev pub answer_error : NgError → Result (Option Captured) NgError
answer_error e = Err e

abbrev pub no_answer : Result (Option Captured) NgError
no_answer = Ok None

abbrev pub answer : Captured → Result (Option Captured) NgError
answer x = Ok (Some x)

pub same_head_error : (e e2 : NgError) → head_error e ≡ head_error e2 → e ≡ e2
same_head_error e e2 h = cc

pub same_end_error : (e e2 : NgError) → end_error e ≡ end_error e2 → e ≡ e2
same_end_error e e2 h = cc

pub same_block_error : (e e2 : NgError) → block_error e ≡ block_error e2 → e ≡ e2
same_block_error e e2 h = cc

pub same_answer_error : (e e2 : NgError) → answer_error e ≡ answer_error e2 → e ≡ e2
same_answer_error e e2 h = cc

pub end_not_error : (e : NgError) → Ok tt ≡ end_error e → ⊥
end_not_error e h = cc

pub head_not_error : (head : Head) (e : NgError) → Ok head ≡ head_error e → ⊥
head_not_error head e h = cc

pub block_not_error : (block : Block) (e : NgError) → Ok block ≡ block_error e → ⊥
block_not_error block e h = cc

pub none_not_error : (e : NgError) → no_answer ≡ answer_error e → ⊥
none_not_error e h = cc

pub none_not_answer : (x : Captured) → no_answer ≡ answer x → ⊥
none_not_answer x h = cc

pub error_not_answer : (e : NgError) (x : Captured) → answer_error e ≡ answer x → ⊥
error_not_answer e x h = cc

-- a choice that is none
pub chose_none : (b : Bool) (e : NgError) → cond b no_answer (answer_error e) ≡ no_answer → b ≡ true
chose_none true e h = refl
chose_none false e h = absurd (cc)
