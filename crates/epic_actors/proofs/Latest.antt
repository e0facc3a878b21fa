-- The latest timestamp that a ledger tells of each host, after a packet was sent.
use Rattle.std.proofs.Common.{◌≡◌, ℕ, ◌+◌, max, Bool, true, false, List, [], ◌∷◌, ◌++◌, length, Option, None, Some, refl, ap, ◌∙◌, ⊎_elim, arith}
use Rattle.std.specs.Prelude.{if◌then◌else◌}
use Rattle.std.specs.Option.{option_map_or}
use Rattle.std.proofs.lemmas.Bool.{cases_Bool}
use Rattle.arrayvec.specs.ArrayVec.{ArrayVec}
use Rattle.epic_num.specs.declared.name.HostId.{HostId}
use Rattle.epic_num.specs.declared.passed.Place.TheVariants.{Router}
use Rattle.epic_num.specs.Same.{same_host}
use Rattle.epic_num.proofs.SameLaws.{same_host-Decides}
use Rattle.epic_layout.specs.Contents.{Contents}
use Rattle.epic_layout.specs.Layout.{parse}
use Rattle.epic_layout.specs.Spelling.{spelling}
use Rattle.epic_ends.specs.Admitting.{next_ts}
use Rattle.epic_ledger.specs.History.{History, Emission}
use Rattle.epic_ledger.specs.Facts.{Facts, Sent, as_send, facts_of, sends_in, packet_at}
use Rattle.epic_ledger.specs.Lawful.{IsLawful}
use Rattle.epic_ledger.specs.declared.event.Event.TheVariants as event
use Rattle.epic_audit.proofs.Growth.{emissions_add_nothing}
use Rattle.epic_audit.proofs.Lists.{one_more}
use Rattle.epic_model.specs.Keeping.{latest_sent, sent_at}
use Rattle.epic_model.proofs.Grown.{packet_next}
use Rattle.epic_actors.specs.Sources.{IsLatest}

-- ---- one packet more

-- the greatest with one timestamp more, where it is the host's
abbrev one : Bool → ℕ → Option ℕ → Option ℕ
one b n o = if b then Some (option_map_or (max n) o n) else o

swapped : (b c : Bool) (m n : ℕ) (o : Option ℕ) → one b m (one c n o) ≡ one c n (one b m o)
swapped true true m n None = ap (λ k. Some k) (omega arith)
swapped true true m n (Some k) = ap (λ j. Some j) (omega arith)
swapped true false m n o = refl
swapped false true m n o = refl
swapped false false m n o = refl

latest_more : (sends : List Sent) (s : Sent) (d : HostId) → latest_sent (sends ++ s ∷ []) d ≡ one (same_host s.packet.src d) s.packet.ts (latest_sent sends d)
latest_more [] s d = refl
latest_more (x ∷ sends) s d =
    ap (one (same_host x.packet.src d) x.packet.ts) (latest_more sends s d)
    ∙ swapped (same_host x.packet.src d) (same_host s.packet.src d) x.packet.ts s.packet.ts (latest_sent sends d)

-- the next timestamp is the greatest
next_greatest : (now ts : ℕ) (o : Option ℕ) → ts ≡ next_ts o now → option_map_or (max ts) o ts ≡ ts
next_greatest now ts None is = refl
next_greatest now ts (Some m) is = omega (arith, is)

-- ---- a packet that is sent

record SendsMore (h after : History) (p : Contents) : Type 0 where
  send : Sent
  are : sends_in after ≡ sends_in h ++ send ∷ []
  is : send.packet ≡ p

sends_more : (step : ℕ) (h : History) (numbers : ArrayVec ℕ) (p : Contents) → IsLawful h → parse (spelling p) ≡ p → SendsMore h (sent_at step h numbers p) p
unfolding sent_at as_send facts_of
sends_more step h numbers p lawful reads =
    let x : Emission = record { place = Router p.src.asn 0; bytes = spelling p } in
    let s : Sent = record { emission = length h.emissions + 1; segments = numbers.items; packet = packet_at (h.emissions ++ x ∷ []) (length h.emissions + 1) } in
    record {
      send = s;
      are = one_more (as_send (h.emissions ++ x ∷ [])) h.events (event.Send step (length h.emissions + 1) numbers) s refl
          ∙ ap (λ ss. ss ++ s ∷ []) (ap (λ (f : Facts). f.sends) (emissions_add_nothing h x lawful));
      is = packet_next h.emissions x ∙ reads;
    }

module _ (step now : ℕ) (h : History) (numbers : ArrayVec ℕ) (p : Contents) (lawful : IsLawful h) (reads : parse (spelling p) ≡ p)
    (next : p.ts ≡ next_ts (latest_sent (sends_in h) p.src) now) where
  told : (d : HostId) → latest_sent (sends_in (sent_at step h numbers p)) d ≡ one (same_host p.src d) p.ts (latest_sent (sends_in h) d)
  told d =
      let more = sends_more step h numbers p lawful reads in
      ap (λ ss. latest_sent ss d) more.are
      ∙ (latest_more (sends_in h) more.send d
      ∙ ap (λ (q : Contents). one (same_host q.src d) q.ts (latest_sent (sends_in h) d)) more.is)

  pub latest_after : IsLatest p.src p.ts h (sent_at step h numbers p)
  latest_after = record {
    here = told p.src
        ∙ (ap (λ b. one b p.ts (latest_sent (sends_in h) p.src)) ((same_host-Decides p.src p.src).1 refl)
        ∙ ap (λ k. Some k) (next_greatest now p.ts (latest_sent (sends_in h) p.src) next));
    others = λ d other.
        told d
        ∙ ⊎_elim
        (λ same. absurd (other ((same_host-Decides p.src d).0 same)))
        (λ no. ap (λ b. one b p.ts (latest_sent (sends_in h) d)) no)
        (cases_Bool (same_host p.src d));
  }
