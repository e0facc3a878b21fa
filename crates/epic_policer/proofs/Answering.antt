-- The answer of the definition, from what the accounts say.
use Rattle.std.proofs.Common.{◌≡◌, ℕ, ◌+◌, ◌<◌, ◌≤◌, refl, sym, ◌∙◌, ap, List, Bool, true, false, cond, Some, None, arith}
use Rattle.std.specs.Prelude.{IsSome, is_some, nat_lt}
use Rattle.std.specs.Map.{keys_of}
use Rattle.std.proofs.lemmas.Bool.{false_from_ne_true, lt-ltb, ltb-true}
use Rattle.epic_num.specs.declared.name.AsId.{AsId}
use Rattle.epic_policer.specs.Accounts.{list_in, used_in}
use Rattle.epic_policer.specs.Kept.{IsKept}
use Rattle.epic_policer.specs.Offers.{Policy, Same, answer, is_among, used}
use Rattle.epic_policer.specs.Queue.{AllLive, entries_of}
use Rattle.epic_policer.specs.declared.accounts.Account.{Account}
use Rattle.epic_policer.specs.declared.packet.Packet.{Packet}
use Rattle.epic_policer.specs.declared.policed.Policed.TheVariants.{Pass, Over, Unknown}
use Rattle.epic_pool.specs.Pool.{PoolState}
use Rattle.epic_policer.proofs.AccountLaws.{known_by}
use Rattle.epic_policer.proofs.Sums.{used_all}

-- settings with the same sources
pub policy_as : {ss ts : List AsId} (budget span : ℕ) → ss ≡ ts → ◌≡◌ {A = Policy} (record { sources = ss; budget = budget; span_us = span }) (record { sources = ts; budget = budget; span_us = span })
policy_as budget span e = λ i. record { sources = e i; budget = budget; span_us = span }

-- the packets that passed, and what is left of them, in accounts of the sources
module _ (policy : Policy) (accounts : List (AsId × Account)) (passed : List Packet) (pool : PoolState Packet) (p : Packet)
    (sources : policy.sources ≡ keys_of accounts) (k : IsKept policy.budget p.moment accounts pool) (live : AllLive policy.span_us p.moment (entries_of pool))
    (same : Same policy.span_us p.moment (entries_of pool) passed) where
  used_now : used policy.span_us passed p.moment p.source ≡ used_in accounts p.source
  used_now = sym (same.used_is p.moment p.source (omega arith)) ∙ used_all policy.span_us p.moment p.source (entries_of pool) live ∙ sym (k.used_is p.source)

  among : is_among policy.sources p.source ≡ is_some (list_in accounts p.source)
  among = ap (λ ss. is_among ss p.source) sources ∙ known_by accounts p.source

  answered : (known above : Bool) → is_some (list_in accounts p.source) ≡ known → nat_lt policy.budget (used_in accounts p.source + p.bytes) ≡ above
      → cond known (cond above (Over (used_in accounts p.source)) (Pass (used_in accounts p.source + p.bytes))) Unknown ≡ answer policy passed p
  unfolding answer
  answered known above e f = λ i.
      cond ((sym (among ∙ e)) i)
      (cond ((sym (ap (λ n. nat_lt policy.budget (n + p.bytes)) used_now ∙ f)) i) (Over (sym used_now i)) (Pass (sym used_now i + p.bytes)))
      Unknown

  pub answers_unknown : list_in accounts p.source ≡ None → Unknown ≡ answer policy passed p
  answers_unknown e = answered false (nat_lt policy.budget (used_in accounts p.source + p.bytes)) (ap is_some e) refl

  pub answers_over : (n : ℕ) → IsSome (list_in accounts p.source) → n ≡ used_in accounts p.source → policy.budget < n + p.bytes → Over n ≡ answer policy passed p
  answers_over n known e above =
      ap Over e ∙ answered true true known (lt-ltb policy.budget (used_in accounts p.source + p.bytes) (omega (arith, e, above)))

  pub answers_pass : (n l : ℕ) → list_in accounts p.source ≡ Some l → n ≡ used_in accounts p.source + p.bytes → n ≤ policy.budget → Pass n ≡ answer policy passed p
  answers_pass n l known e fits =
      ap Pass e
      ∙ answered true false (ap is_some known)
      (false_from_ne_true (nat_lt policy.budget (used_in accounts p.source + p.bytes))
      (λ t. let lt = ltb-true policy.budget (used_in accounts p.source + p.bytes) t in absurd (omega (arith, e, fits, lt))))
