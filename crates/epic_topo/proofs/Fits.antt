-- What is read is in its ranges, and a link that is read fits into the topology.
use Rattle.std.proofs.Common.{◌≡◌, ℕ, ◌+◌, ◌≤◌, not, List, Option, None, Some, Result, Ok, Err, IfOk, refl, ap, sym, ◌∙◌, length, arith}
use Rattle.std.proofs.lemmas.Bool.{cond_both, eqb-false, not-true}
use Rattle.std.proofs.Math.Nat.{mul-mod_left}
use Rattle.std.specs.Result.{result_ok}
use Rattle.hex.specs.Hex.{IsBytes, decode_sized}
use Rattle.hex.proofs.HexLemmas.{decode_of-ok, decode_sized-ok, decode_sized-twice}
use Rattle.epic_num.specs.Names.{IsReadable, as_of}
use Rattle.toml.specs.Data.{Data, Members, no_members, as_integer, as_table}
use Rattle.epic_num.specs.declared.name.AsId.{AsId}
use Rattle.epic_num.specs.Moments.{IsProfile}
use Rattle.epic_topo.specs.Lawful.{IsEnd, IsNewLink, IsNewSystem}
use Rattle.epic_num.specs.Same.{same_as}
use Rattle.epic_topo.specs.Network.{Network, has, is_taken, keeps_core_rule}
use Rattle.epic_topo.specs.Reading.{fails, only_if, or_fails, value_at, setting_of, setting_at, settings, profile_of, asn_at, iface_at, kind_at, end_at, fitting, next_link, text_at, core_at, master_at, next_system}
use Rattle.epic_topo.specs.declared.fault.TopoError.{TopoError}
use Rattle.epic_topo.specs.declared.fault.TopoKey.{TopoKey}
use Rattle.epic_topo.specs.declared.fault.TopoKey.TheVariants as key
use Rattle.epic_topo.specs.declared.fault.TopoKind.TheVariants.{Missing, WrongKind, BadProfile, BadAs, BadKey, DuplicateAs, UnknownAs, BadInterface}
use Rattle.epic_topo.specs.declared.network.Link.{Link}
use Rattle.epic_topo.specs.declared.network.System.{System}
use Rattle.epic_topo.proofs.AsNames.{readable}
use Rattle.epic_topo.proofs.Steps.{there, after, at_ok, if_passed, ranged}

-- ---- the settings

setting_within : (k : TopoKey) (least most default : ℕ) (t : Members) → least ≤ default → default ≤ most
    → IfOk (setting_at k least most default t) (λ n. (least ≤ n) × (n ≤ most))
unfolding setting_at
setting_within k least most default t low high =
    elim (value_at k t) as (λ o. IfOk (setting_of k least most default o) (λ n. (least ≤ n) × (n ≤ most))) [
      | None ↦ (low, high)
      | Some d ↦ after (or_fails WrongKind k 0 (as_integer d)) _ _ (λ z _. ranged BadProfile k 0 least most z)
    ]

setting_is : (k : TopoKey) (least most default : ℕ) (t : Members) (n : ℕ) → least ≤ default → default ≤ most
    → setting_at k least most default t ≡ Ok n → (least ≤ n) × (n ≤ most)
setting_is k least most default t n low high read =
    at_ok (λ m. (least ≤ m) × (m ≤ most)) (setting_at k least most default t) n read (setting_within k least most default t low high)

pub settings_fit : (t : Members) → IfOk (settings t) IsProfile
unfolding settings
settings_fit t =
    after (setting_at key.LifetimeUs 1 3600000000 2000000 t) _ _ (λ lifetime read_lifetime.
    after (setting_at key.SkewUs 0 3600000000 1000000 t) _ _ (λ skew read_skew.
    after (setting_at key.EpochS 1 31536000 86400 t) _ _ (λ epoch read_epoch.
    after (setting_at key.Window 1 65536 4096 t) _ _ (λ window read_window.
    let l = setting_is key.LifetimeUs 1 3600000000 2000000 t lifetime (omega arith) (omega arith) read_lifetime in
    let s = setting_is key.SkewUs 0 3600000000 1000000 t skew (omega arith) (omega arith) read_skew in
    let e = setting_is key.EpochS 1 31536000 86400 t epoch (omega arith) (omega arith) read_epoch in
    let w = setting_is key.Window 1 65536 4096 t window (omega arith) (omega arith) read_window in
    record {
      some_lifetime = l.0;
      lifetime = l.1;
      skew = s.1;
      some_epoch = omega arith;
      epoch = omega arith;
      seconds = mul-mod_left epoch 1000000;
      some_window = w.0;
      window = w.1;
    }))))

pub profile_fits : (o : Option Data) → IfOk (profile_of o) IsProfile
profile_fits None = settings_fit no_members
profile_fits (Some d) = after (or_fails WrongKind key.Profile 0 (as_table d)) _ _ (λ t _. settings_fit t)

-- ---- an AS

asn_named : (k : TopoKey) (place : ℕ) (t : Members) → IfOk (asn_at k place t) (λ a. IsReadable a.0)
unfolding asn_at
asn_named k place t =
    after (text_at k place t) _ _ (λ text _.
    after (or_fails BadAs k place (as_of text)) _ _ (λ number read.
    readable text number (there BadAs k place (as_of text) number read)))

-- a key that was taken is 16 bytes
key_of : (digits bytes : List ℕ) → decode_sized digits 16 ≡ Ok bytes → (length bytes ≡ 16) × IsBytes bytes
key_of digits bytes e =
    let long = decode_sized-ok digits 16 bytes e in
    let whole = decode_of-ok digits bytes (sym (decode_sized-twice digits 16 long) ∙ e) in
    (omega (arith, whole.2), whole.3)

master_is : (place : ℕ) (t : Members) → IfOk (master_at place t) (λ bytes. (length bytes ≡ 16) × IsBytes bytes)
unfolding master_at
master_is place t =
    after (text_at key.Key place t) _ _ (λ digits _.
    elim (decode_sized digits 16) as (λ r. decode_sized digits 16 ≡ r → IfOk (or_fails BadKey key.Key place (result_ok r)) (λ bytes. (length bytes ≡ 16) × IsBytes bytes)) [
      | Ok bytes ↦ λ e. key_of digits bytes e
      | Err f ↦ λ e. tt
    ] refl)

pub next_system_fits : (n : Network) (d : Data) → IfOk (next_system n d) (IsNewSystem n)
unfolding next_system
next_system_fits n d =
    let place = length n.systems + 1 in
    after (or_fails WrongKind key.As place (as_table d)) _ _ (λ t _.
    after (asn_at key.Name place t) _ _ (λ asn read_asn.
    after (core_at place t) _ _ (λ core _.
    after (master_at place t) _ _ (λ master read_master.
    let named = at_ok (λ a. IsReadable a.0) (asn_at key.Name place t) asn read_asn (asn_named key.Name place t) in
    let bytes = at_ok (λ bytes. (length bytes ≡ 16) × IsBytes bytes) (master_at place t) master read_master (master_is place t) in
    let s : System = record { asn = asn; is_core = core; master = master } in
    cond_both (not (has n asn)) (Ok s) (fails DuplicateAs key.Name place) (λ r. IfOk r (IsNewSystem n))
    (λ e. record { lawful = record { named = named; key = bytes.0; bytes = bytes.1 }; new = not-true (has n asn) e })
    (λ _. tt)))))

-- ---- a link

-- an interface is 1 to 65,535
iface_within : (k : TopoKey) (place : ℕ) (t : Members) → IfOk (iface_at k place t) (λ i. (1 ≤ i) × (i ≤ 65535))
unfolding iface_at
iface_within k place t =
    after (or_fails Missing k place (value_at k t)) _ _ (λ d _.
    after (or_fails WrongKind k place (as_integer d)) _ _ (λ z _. ranged BadInterface k place 1 65535 z))

end_fits : (n : Network) (k f : TopoKey) (t : Members) → IfOk (end_at n k f t) (IsEnd n)
unfolding end_at
end_fits n k f t =
    let place = length n.links + 1 in
    after (asn_at k place t) _ _ (λ named _.
    after (only_if (has n named) UnknownAs k place named) _ _ (λ asn known.
    after (iface_at f place t) _ _ (λ iface read.
    let passed = if_passed (has n named) UnknownAs k place named asn known in
    let within = at_ok (λ i. (1 ≤ i) × (i ≤ 65535)) (iface_at f place t) iface read (iface_within f place t) in
    record { known = ap (has n) (sym passed.1) ∙ passed.0; some_iface = within.0; iface = within.1 })))

fitting_fits : (n : Network) (l : Link) → IsEnd n l.a → IsEnd n l.b → IfOk (fitting n l) (IsNewLink n)
unfolding fitting same_as
fitting_fits n l a b =
    let place = length n.links + 1 in
    let P : Result Link TopoError → Type 0 = λ r. IfOk r (IsNewLink n) in
    cond_both (same_as l.a.asn l.b.asn) _ _ P (λ _. tt) (λ two.
    cond_both (is_taken n l.a) _ _ P (λ _. tt) (λ free_a.
    cond_both (is_taken n l.b) _ _ P (λ _. tt) (λ free_b.
    cond_both (keeps_core_rule n l) _ _ P
    (λ rule. record {
      link = record { a = a; b = b; joins_two = λ e. eqb-false l.a.asn.0 l.b.asn.0 two (ap (λ (x : AsId). x.0) e); rule = rule };
      free_a = free_a;
      free_b = free_b;
    })
    (λ _. tt))))

pub next_link_fits : (n : Network) (d : Data) → IfOk (next_link n d) (IsNewLink n)
unfolding next_link
next_link_fits n d =
    let place = length n.links + 1 in
    after (or_fails WrongKind key.Link place (as_table d)) _ _ (λ t _.
    after (kind_at place t) _ _ (λ kind _.
    after (end_at n key.A key.AIf t) _ _ (λ a read_a.
    after (end_at n key.B key.BIf t) _ _ (λ b read_b.
    fitting_fits n (record { kind = kind; a = a; b = b })
    (at_ok (IsEnd n) (end_at n key.A key.AIf t) a read_a (end_fits n key.A key.AIf t))
    (at_ok (IsEnd n) (end_at n key.B key.BIf t) b read_b (end_fits n key.B key.BIf t))))))
