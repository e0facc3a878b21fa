-- What is found of the packet as which one was sent, and of its hops.
use Rattle.std.proofs.Common.{◌≡◌, ℕ, ◌<◌, Bool, true, false, ◌&&◌, ◌||◌, not, List, length, Option, Some, None, find, refl, sym, ap, subst, ◌∙◌}
use Rattle.std.specs.Prelude.{◌==◌, nat_lt, option_map, option_and_then, is_some, unwrap_or, IfSome, IsTrue, if◌then◌else◌}
use Rattle.std.specs.List.{All, list_any, range_with_len}
use Rattle.std.specs.Option.{option_map_or}
use Rattle.std.proofs.lemmas.Bool.{and_parts, ltb-true}
use Rattle.std.proofs.lemmas.Option.{same_Some}
use Rattle.std.proofs.lemmas.Slice.Eq.{bytes_eq-Decides}
use Rattle.epic_num.specs.Chains.{Issue, name_of, no_name}
use Rattle.epic_num.specs.Levels.{is_updated}
use Rattle.epic_num.specs.declared.hop.HopName.{HopName}
use Rattle.epic_num.specs.declared.key_name.Holder.TheVariants.{As, Host}
use Rattle.epic_layout.specs.Contents.{Contents, IsPacket, hop_count}
use Rattle.epic_layout.specs.Route.{Route}
use Rattle.epic_layout.specs.Spelling.{path_bytes}
use Rattle.epic_layout.proofs.Codes.{same_route}
use Rattle.epic_topo.specs.Network.{Network, has}
use Rattle.epic_ledger.specs.History.{History}
use Rattle.epic_ledger.specs.Facts.{Facts, Sent, facts_of, sent_issue, sent_name}
use Rattle.epic_ledger.specs.Queries.{is_send_of, same_path, send_of}
use Rattle.epic_audit.specs.Clauses.{is_sent_as, sent_as}
use Rattle.epic_audit.specs.Reveals.{is_revealed}
use Rattle.epic_audit.specs.Searches.{is_passed}
use Rattle.epic_audit.specs.Verdicts.{is_uncovered, sent_hop, uncovered, uncovered_in}
use Rattle.epic_audit.specs.declared.uncovered.Uncovered.{Uncovered}
use Rattle.epic_audit.proofs.Finds.{found}
use Rattle.epic_index.specs.Events.{send_at}
use Rattle.epic_judging.specs.Given.{only_send}
use Rattle.epic_judge.specs.declared.dest_sent.Sending.{Sending}
use Rattle.epic_judge.specs.Known.{AreKnown}
use Rattle.epic_judge.specs.Sendings.{name_by, is_exempt, is_open, open_hop, over, sent_over, IsOver, IsSending, IsSentOver}
use Rattle.epic_judge.proofs.Breaks.{IsOf, issue_known}
use Rattle.epic_judge.proofs.DestMade.{sending}

-- ---- packets that were sent so

pub same_hops : (p q : Contents) → IsPacket p → IsPacket q → same_path q.route p.route ≡ true → hop_count q ≡ hop_count p
unfolding same_path
same_hops p q ip iq e =
    ap (λ (r : Route). length r.hops) (same_route q.route p.route iq.route ip.route ((bytes_eq-Decides (path_bytes q.route) (path_bytes p.route)).0 e))

as_hops : (p : Contents) (s : Sent) → IsPacket p → IsPacket s.packet → is_sent_as p s ≡ true → hop_count s.packet ≡ hop_count p
unfolding is_sent_as
as_hops p s ip is e = same_hops p s.packet ip is (and_parts _ _ (and_parts _ _ e).0).1

sent_passes : (sends : List Sent) (p : Contents) (s : Sent) → sent_as sends p ≡ Some s → is_sent_as p s ≡ true
unfolding sent_as
sent_passes sends p s e = (found (is_sent_as p) sends s e).passes

pub later_is : (h : History) (p : Contents) (n : ℕ) (r : ℕ × Contents) (hops : ℕ) → IsPacket p → IsPacket r.1 → hops ≡ hop_count r.1
    → send_at h n ≡ sent_as (facts_of h).sends p → Some r ≡ option_map sending (send_at h n) → IsSending h p (record { emission = r.0; hops = hops; event = n })
later_is h p n r hops ip ir count at e = by (send_at h n) refl e
  where
    by : (o : Option Sent) → send_at h n ≡ o → Some r ≡ option_map sending o → IsSending h p (record { emission = r.0; hops = hops; event = n })
    by None k m = absurd (cc)
    by (Some s) k m =
        let same : r ≡ sending s = same_Some r (sending s) m in
        let there : IsPacket s.packet = subst (λ (v : ℕ × Contents). IsPacket v.1) same ir in
        let hops_are : hops ≡ hop_count s.packet = count ∙ ap (λ (v : ℕ × Contents). hop_count v.1) same in
        let is : sent_as (facts_of h).sends p ≡ Some s = sym at ∙ k in
        record {
          send = s;
          found = is;
          emission_is = ap (λ (v : ℕ × Contents). v.0) same;
          hops_is = hops_are;
          within = hops_are ∙ as_hops p s ip there (sent_passes (facts_of h).sends p s is);
          place_is = k;
        }

pub later_none : (o q : Option Sent) → o ≡ q → None ≡ option_map sending o → q ≡ None
later_none None q e k = sym e
later_none (Some s) q e k = absurd (cc)

-- ---- the names of hops

sent_known : (t : Network) (issues : List Issue) (s : Sent) (j : ℕ) (x : HopName) → All (λ i. IsOf t i.name) issues → sent_name issues s j ≡ Some x → IsOf t x
unfolding sent_name
sent_known t issues s j x h e = by (nat_lt j (hop_count s.packet)) e
  where
    by : (b : Bool) → (if b then name_of issues (sent_issue issues s j) else None) ≡ Some x → IsOf t x
    by true k = issue_known t issues (sent_issue issues s j) x h k
    by false k = absurd (cc)

sent_within : (issues : List Issue) (s : Sent) (j : ℕ) (x : HopName) → sent_name issues s j ≡ Some x → j < hop_count s.packet
unfolding sent_name
sent_within issues s j x e = by (nat_lt j (hop_count s.packet)) refl e
  where
    by : (b : Bool) → nat_lt j (hop_count s.packet) ≡ b → (if b then name_of issues (sent_issue issues s j) else None) ≡ Some x → j < hop_count s.packet
    by true is k = ltb-true j (hop_count s.packet) is
    by false is k = absurd (cc)

-- of whatever packet was sent
pub some_known : (t : Network) (f : Facts) (o : Option Sent) (j : ℕ) (name : Option HopName) → AreKnown t f → name ≡ option_and_then (λ s. sent_name f.issues s j) o
    → IfSome name (λ x. IsOf t x)
some_known t f o j None known e = tt
some_known t f None j (Some x) known e = absurd (cc)
some_known t f (Some s) j (Some x) known e = sent_known t f.issues s j x known.issued (sym e)

pub by_known : (t : Network) (h : History) (event j : ℕ) (name : Option HopName) → AreKnown t (facts_of h) → name ≡ name_by h event j
    → IfSome name (λ x. IsOf t x)
unfolding name_by
by_known t h event j name known e = some_known t (facts_of h) (send_at h event) j name known e

pub at_known : (t : Network) (f : Facts) (o : Option Sent) (j : ℕ) (name : Option HopName) (x : HopName) → AreKnown t f → name ≡ option_and_then (λ s. sent_name f.issues s j) o → name ≡ Some x
    → IsOf t x
at_known t f o j name x known e is = subst (λ (n : Option HopName). IfSome n (λ y. IsOf t y)) is (some_known t f o j name known e)

-- ---- the one packet that was sent

over_by : (t : Network) (f : Facts) (p : Contents) (j : ℕ) (s : Sent) (result : Option HopName) → AreKnown t f → IsPacket p → IsPacket s.packet
    → sent_over f p j ≡ over f p j s → result ≡ over f p j s → IsOver t f p j result
over_by t f p j s result known ip is whole e = by (s.packet.first == p.first && same_path s.packet.route p.route) refl result e
  where
    by : (b : Bool) → (s.packet.first == p.first && same_path s.packet.route p.route) ≡ b → (r : Option HopName) → r ≡ over f p j s → IsOver t f p j r
    by b k None m = whole ∙ sym m
    by true k (Some x) m =
        let named : sent_name f.issues s j ≡ Some x = sym (m ∙ ap (λ (c : Bool). if c then sent_name f.issues s j else None) k) in
        record {
          name_is = whole ∙ sym m;
          within = subst (λ n. j < n) (same_hops p s.packet ip is (and_parts (s.packet.first == p.first) (same_path s.packet.route p.route) k).1) (sent_within f.issues s j x named);
          known = sent_known t f.issues s j x known.issued named;
        }
    by false k (Some x) m = let none : Some x ≡ None = m ∙ ap (λ (c : Bool). if c then sent_name f.issues s j else None) k in absurd (cc)

pub over_is : (t : Network) (h : History) (p : Contents) (j n : ℕ) (r : ℕ × Contents) (name result : Option HopName) → AreKnown t (facts_of h) → IsPacket p → IsPacket r.1
    → send_at h n ≡ only_send (facts_of h).sends p → Some r ≡ option_map sending (send_at h n) → name ≡ option_and_then (λ s. sent_name (facts_of h).issues s j) (send_at h n)
    → result ≡ (if r.1.first == p.first && same_path r.1.route p.route then name else None) → IsOver t (facts_of h) p j result
unfolding sent_over
over_is t h p j n r name result known ip ir at e named is = by (send_at h n) refl e named
  where
    by : (o : Option Sent) → send_at h n ≡ o → Some r ≡ option_map sending o → name ≡ option_and_then (λ s. sent_name (facts_of h).issues s j) o → IsOver t (facts_of h) p j result
    by None k m q = absurd (cc)
    by (Some s) k m q =
        let same : r ≡ sending s = same_Some r (sending s) m in
        over_by t (facts_of h) p j s result known ip (subst (λ (v : ℕ × Contents). IsPacket v.1) same ir)
        (ap (option_and_then (over (facts_of h) p j)) (sym at ∙ k))
        (is ∙ (λ i. if (same i).1.first == p.first && same_path (same i).1.route p.route then q i else None))

pub over_none : (f : Facts) (p : Contents) (j : ℕ) (o : Option Sent) → o ≡ only_send f.sends p → None ≡ option_map sending o → sent_over f p j ≡ None
unfolding sent_over
over_none f p j None at e = ap (option_and_then (over f p j)) (sym at)
over_none f p j (Some s) at e = absurd (cc)

pub over_no_one : (f : Facts) (p : Contents) (j : ℕ) → None ≡ only_send f.sends p → sent_over f p j ≡ None
unfolding sent_over
over_no_one f p j at = ap (option_and_then (over f p j)) (sym at)

-- ---- hops that aren't covered

abbrev pub hop_of : Uncovered → ℕ × HopName
hop_of u = (u.hop, u.name)

map_twice : {X Y Z : Type 0} (g : Y → Z) (f : X → Y) (o : Option X) → option_map (λ x. g (f x)) o ≡ option_map g (option_map f o)
map_twice g f None = refl
map_twice g f (Some x) = refl

uncovered_by : (f : Facts) (p : Contents) (s : Sent) → sent_as f.sends p ≡ Some s
    → (if is_exempt f p then None else option_map (open_hop (sent_name f.issues s)) (find (is_open f p (sent_name f.issues s)) (range_with_len 0 (hop_count s.packet)))) ≡ option_map hop_of (uncovered f p)
unfolding uncovered uncovered_in is_uncovered is_passed
uncovered_by f p s e = by (is_exempt f p) ∙ ap (λ (o : Option Sent). option_map hop_of (option_and_then (uncovered_in f p) o)) (sym e)
  where
    by : (b : Bool) → (if b then None else option_map (open_hop (sent_name f.issues s)) (find (is_open f p (sent_name f.issues s)) (range_with_len 0 (hop_count s.packet))))
        ≡ option_map hop_of (if b then None else option_map (sent_hop f s) (find (is_uncovered f p s) (range_with_len 0 (hop_count s.packet))))
    by true = refl
    by false = map_twice hop_of (sent_hop f s) (find (is_uncovered f p s) (range_with_len 0 (hop_count s.packet)))

pub found_uncovered : (h : History) (p : Contents) (v : Sending) → IsSending h p v
    → (if is_exempt (facts_of h) p then None else option_map (open_hop (name_by h v.event)) (find (is_open (facts_of h) p (name_by h v.event)) (range_with_len 0 v.hops))) ≡ option_map hop_of (uncovered (facts_of h) p)
unfolding name_by
found_uncovered h p v is =
    let f = facts_of h in
    let names : name_by h v.event ≡ sent_name f.issues is.send = λ i j. option_and_then (λ s. sent_name f.issues s j) (is.place_is i) in
    (λ i. if is_exempt f p then None else option_map (open_hop (names i)) (find (is_open f p (names i)) (range_with_len 0 (is.hops_is i))))
    ∙ uncovered_by f p is.send is.found

pub exempt_none : (h : History) (p : Contents) (v : Sending) → IsSending h p v → is_exempt (facts_of h) p ≡ true → None ≡ option_map hop_of (uncovered (facts_of h) p)
exempt_none h p v is e =
    ap (λ (b : Bool). if b then None else option_map (open_hop (name_by h v.event)) (find (is_open (facts_of h) p (name_by h v.event)) (range_with_len 0 v.hops))) (sym e)
    ∙ found_uncovered h p v is

pub open_found : (h : History) (p : Contents) (v : Sending) (result : Option (ℕ × HopName)) → IsSending h p v → is_exempt (facts_of h) p ≡ false
    → result ≡ option_map (open_hop (name_by h v.event)) (find (is_open (facts_of h) p (name_by h v.event)) (range_with_len 0 v.hops)) → result ≡ option_map hop_of (uncovered (facts_of h) p)
open_found h p v result is e found_is =
    found_is
    ∙ (ap (λ (b : Bool). if b then None else option_map (open_hop (name_by h v.event)) (find (is_open (facts_of h) p (name_by h v.event)) (range_with_len 0 v.hops))) (sym e)
    ∙ found_uncovered h p v is)
