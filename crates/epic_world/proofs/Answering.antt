-- What steps are to answer.
use Rattle.std.proofs.Common.{◌≡◌, ℕ, ◌+◌, ◌≤◌, ◌<◌, true, false, ◌||◌, List, length, refl, sym, ◌∙◌, ap, subst}
use Rattle.std.specs.Prelude.{Result, Ok, Err, Some, Option, IsSome, if◌then◌else◌}
use Rattle.std.proofs.lemmas.Bool.{lt-ltb, le-ltb}
use Rattle.epic_num.specs.Same.{same_as}
use Rattle.epic_num.specs.declared.name.AsId.{AsId}
use Rattle.epic_num.specs.declared.beacon_error.BeaconError.{BeaconError}
use Rattle.epic_num.specs.declared.answer.Answer.TheVariants.{Issued, Fetched, Known, Paths, Revealed, Rolled}
use Rattle.epic_num.specs.declared.answer.Refusal.TheVariants.{Beacon as BeaconRefusal, TooManyPaths}
use Rattle.epic_num.specs.declared.path_ref.PathRef.{PathRef}
use Rattle.epic_topo.specs.Network.{Network, has}
use Rattle.epic_topo.specs.Lawful.{IsTopology}
use Rattle.epic_num.specs.declared.command.Command.{Command}
use Rattle.epic_num.specs.declared.command.Command.TheVariants as command
use Rattle.epic_num.specs.declared.key_name.Holder.{Holder}
use Rattle.epic_fields.specs.Issues.{IssuesKept}
use Rattle.epic_keys.specs.Fetches.{Fetch, FetchSet, is_fetched, is_known}
use Rattle.epic_beacon.specs.declared.beacon.Beacon.{Beacon}
use Rattle.epic_beacon.specs.Issuing.{Issues, originated, extended}
use Rattle.epic_beacon.specs.Kinds.{KindsKept}
use Rattle.epic_beacon.specs.Segments.{segments}
use Rattle.epic_beacon.specs.Store.{Store, issue_of, issues_of}
use Rattle.epic_beacon.specs.Told.{beacons_in}
use Rattle.epic_beacon.proofs.Told.{issues_in_beacons, originated_told, extended_told}
use Rattle.epic_path.specs.Routes.{all_lawful}
use Rattle.epic_ledger.specs.History.{History}
use Rattle.epic_ledger.specs.Facts.{facts_of, issues_in, reveals_in}
use Rattle.epic_ledger.specs.declared.event.Event.TheVariants as event
use Rattle.epic_ledger.specs.OneMore.{with_event}
use Rattle.epic_model.specs.State.{State, is_fetched_in}
use Rattle.epic_model.specs.Keeping.{store_in}
use Rattle.epic_world.specs.Stepped.{Steps}
use Rattle.epic_model.specs.Traces.{recorded, answered, refused}
use Rattle.epic_model.specs.Steps.{issued, next, next_originate, next_extend, next_fetch, next_paths, next_reveal, next_roll, as_of, found}
use Rattle.epic_audit.specs.Reveals.{is_revealed}
use Rattle.epic_model.specs.Passing.{rolls}
use Rattle.epic_model.specs.World.{Fits, WorldsGoOn, most_steps}
use Rattle.epic_actors.specs.Hosts.{HostTable}
use Rattle.epic_actors.specs.Lasting.{StandByOthers}
use Rattle.epic_actors.specs.Routers.{RouterTable}
use Rattle.epic_actors.specs.Sources.{SendersStandByOthers, SourceTable}
use Rattle.epic_world.specs.Refining.{Refines, state_of}
use Rattle.epic_world.proofs.Issued.{WasIssued, was_issued}
use Rattle.epic_world.proofs.Refined.{issued as issue_refines}

-- ---- what the objects tell

module _ (t : Network) (store : Store) (keys : FetchSet) (routers : RouterTable) (hosts : HostTable) (sources : SourceTable) (moment n : ℕ) (h : History) (r : Refines t store keys routers hosts sources moment n h) where
  -- a key is known to the store as to the ledger
  pub same_known : (f : Fetch) → is_known (is_fetched keys) f ≡ is_known (is_fetched_in h.events) f
  unfolding is_known
  same_known f = ap (λ b. same_as f.owner f.source || b) (r.fetched f)

  pub beacons_are : store.beacons ≡ beacons_in t (issues_in h.events)
  unfolding store_in
  beacons_are = ap (λ (s : Store). s.beacons) r.stored

  pub issues_are_kept : IssuesKept t (issues_of store.beacons)
  unfolding facts_of
  issues_are_kept = subst (IssuesKept t) (sym (ap issues_of beacons_are ∙ issues_in_beacons t (issues_in h.events))) r.world.inv.sound.kept.issues

  -- a hop is issued by the ledger as by the store
  pub originates : (a : AsId) (out exp : ℕ) → originated t store a out exp moment ≡ originated t (store_in t h) a out exp moment
  originates a out exp = ap (λ s. originated t s a out exp moment) r.stored

  pub extends : (parent out exp : ℕ) → extended t store parent out exp moment ≡ extended t (store_in t h) parent out exp moment
  extends parent out exp = ap (λ s. extended t s parent out exp moment) r.stored

  pub originated_is : (new : Store) (a : AsId) (out exp number : ℕ) → Issues store new (originated t store a out exp moment) (Ok number)
      → WasIssued t store new (issues_in h.events) (originated t store a out exp moment) number
  originated_is new a out exp number i =
      was_issued t store new (issues_in h.events) (originated t store a out exp moment) number beacons_are i
      (λ b is. originated_told t store a out exp moment b (issues_in h.events) beacons_are is)

  pub extended_is : (new : Store) (parent out exp number : ℕ) → Issues store new (extended t store parent out exp moment) (Ok number)
      → WasIssued t store new (issues_in h.events) (extended t store parent out exp moment) number
  extended_is new parent out exp number i =
      was_issued t store new (issues_in h.events) (extended t store parent out exp moment) number beacons_are i
      (λ b is. extended_told t store parent out exp moment b (issues_in h.events) beacons_are is)

  -- the ledger with the issue
  pub issue_recorded : (new : Store) (answer : Result Beacon BeaconError) (number : ℕ) (c : Command)
      → WorldsGoOn → StandByOthers → SendersStandByOthers → IsTopology t → Fits c → n + 1 < most_steps
      → next t (state_of moment n h) c ≡ issued (state_of moment n h) answer
      → (q : WasIssued t store new (issues_in h.events) answer number) → KindsKept t new.beacons
      → Refines t new keys routers hosts sources moment (n + 1) (with_event h (event.Issue (n + 1) number q.beacon.name q.beacon.parent))
  issue_recorded new answer number c law actors senders topology fits few is q kinds =
      let s = state_of moment n h in
      issue_refines t store keys routers hosts sources moment n h r new number (issue_of q.beacon) c law actors senders topology fits few
      (is ∙ (ap (issued s) q.answer_is ∙ ap (λ k. recorded s (event.Issue (n + 1) k q.beacon.name q.beacon.parent) (Issued k)) (sym q.number_is)))
      q.new_is kinds

  -- the paths are over the segments of the ledger's issues
  pub segments_are : segments store.beacons ≡ segments (beacons_in t (issues_in h.events))
  segments_are = ap segments beacons_are

-- ---- issues

pub some_there : {A : Type 0} (o : Option A) (x : A) → o ≡ Some x → IsSome o
some_there o x e = subst (λ (p : Option _). IsSome p) (sym e) refl

-- what an issue answers
pub issue_answers : (s : State) (told : Result Beacon BeaconError) (b : Beacon) (number : ℕ) (h : History) → told ≡ Ok b
    → number ≡ length (issues_in s.history.events) + 1 → h ≡ with_event s.history (event.Issue (s.steps + 1) number b.name b.parent)
    → Steps (issued s told) (Ok (Issued number)) s (record { moment = s.moment; steps = s.steps + 1; history = h })
issue_answers s told b number h e next history =
    subst (λ (r : Result Beacon BeaconError). Steps (issued s r) (Ok (Issued number)) s (record { moment = s.moment; steps = s.steps + 1; history = h })) (sym e) (
      ap Issued next,
      λ i. record {
        moment = s.moment;
        steps = s.steps + 1;
        history = (history ∙ ap (λ k. with_event s.history (event.Issue (s.steps + 1) k b.name b.parent)) next) i;
      },
    )

-- what a refusal answers
pub refusal_answers : (s : State) (told : Result Beacon BeaconError) (e : BeaconError) → told ≡ Err e → issued s told ≡ refused s (BeaconRefusal e)
refusal_answers s told e h = ap (issued s) h

pub known_originate : (t : Network) (s : State) (a : AsId) (out exp : ℕ) → has t a ≡ true
    → next_originate t s a out exp ≡ issued s (originated t (store_in t s.history) a out exp s.moment)
unfolding next_originate
known_originate t s a out exp h = rw h refl

pub any_extend : (t : Network) (s : State) (parent out exp : ℕ)
    → next_extend t s parent out exp ≡ issued s (extended t (store_in t s.history) parent out exp s.moment)
unfolding next_extend
any_extend t s parent out exp = refl

-- ---- fetches

abbrev fetch_of : AsId → AsId → ℕ → Fetch
fetch_of source owner epoch = record { source = source; owner = owner; epoch = epoch }

pub new_fetch : (t : Network) (s : State) (source owner : AsId) (epoch : ℕ) → has t source ≡ true → has t owner ≡ true
    → is_known (is_fetched_in s.history.events) (fetch_of source owner epoch) ≡ false
    → next_fetch t s source owner epoch ≡ recorded s (event.Fetch (s.steps + 1) source owner epoch) Fetched
unfolding next_fetch
new_fetch t s source owner epoch h k unknown = rw (h, k, unknown) refl

pub known_fetch : (t : Network) (s : State) (source owner : AsId) (epoch : ℕ) → has t source ≡ true → has t owner ≡ true
    → is_known (is_fetched_in s.history.events) (fetch_of source owner epoch) ≡ true → next_fetch t s source owner epoch ≡ answered s Known
unfolding next_fetch
known_fetch t s source owner epoch h k known = rw (h, k, known) refl

-- ---- paths

pub known_paths : (t : Network) (s : State) (from to : AsId) → has t from ≡ true → has t to ≡ true
    → next_paths t s from to ≡ found s (all_lawful (segments (beacons_in t (issues_in s.history.events))) from to)
unfolding next_paths
known_paths t s from to h k = rw (h, k) refl

pub few_found : (s : State) (paths : List PathRef) → length paths ≤ 4096 → found s paths ≡ answered s (Paths paths)
few_found s paths few = ap (λ b. if b then refused s TooManyPaths else answered s (Paths paths)) (le-ltb 4096 (length paths) few)

pub many_found : (s : State) (paths : List PathRef) → 4096 < length paths → found s paths ≡ refused s TooManyPaths
many_found s paths many = ap (λ b. if b then refused s TooManyPaths else answered s (Paths paths)) (lt-ltb 4096 (length paths) many)

-- ---- commands

pub is_originate : (t : Network) (s : State) (a : AsId) (out exp : ℕ) → next t s (command.Originate a out exp) ≡ next_originate t s a out exp
unfolding next
is_originate t s a out exp = refl

pub is_extend : (t : Network) (s : State) (parent out exp : ℕ) → next t s (command.Extend parent out exp) ≡ next_extend t s parent out exp
unfolding next
is_extend t s parent out exp = refl

pub is_fetch : (t : Network) (s : State) (source owner : AsId) (epoch : ℕ) → next t s (command.Fetch source owner epoch) ≡ next_fetch t s source owner epoch
unfolding next
is_fetch t s source owner epoch = refl

pub is_reveal : (t : Network) (s : State) (holder : Holder) → next t s (command.Reveal holder) ≡ next_reveal t s holder
unfolding next
is_reveal t s holder = refl

pub is_roll : (t : Network) (s : State) (a : AsId) → next t s (command.Roll a) ≡ next_roll t s a
unfolding next
is_roll t s a = refl

-- ---- reveals and rolls

pub new_reveal : (t : Network) (s : State) (holder : Holder) → has t (as_of holder) ≡ true → is_revealed (reveals_in s.history.events) holder ≡ false
    → next_reveal t s holder ≡ recorded s (event.Reveal (s.steps + 1) holder) Revealed
unfolding next_reveal
new_reveal t s holder h k = rw (h, k) refl

pub known_roll : (t : Network) (s : State) (a : AsId) → has t a ≡ true
    → (let generation = rolls s.history.events a + 1 in
    next_roll t s a ≡ recorded s (event.Roll (s.steps + 1) a generation) (Rolled generation))
unfolding next_roll
known_roll t s a h = rw h refl
