-- Numbers, ASes, hosts and names of keys are read from their texts.
use Rattle.std.proofs.Common.{◌≡◌, ℕ, ◌≤◌, ◌<◌, ◌^◌, List, [], ◌∷◌, ◌++◌, refl, ap, ◌∙◌, arith, codes, decimal, append_assoc, Some}
use Rattle.std.specs.Prelude.{option_map}
use Rattle.std.specs.List.{join_with_byte, slice_split}
use Rattle.std.specs.Option.{option_zip}
use Rattle.epic_num.specs.declared.key_name.KeyName.{KeyName}
use Rattle.epic_num.specs.declared.key_name.KeyName.TheVariants as keys
use Rattle.epic_num.specs.declared.name.AsId.{AsId}
use Rattle.epic_num.specs.declared.name.HostId.{HostId}
use Rattle.epic_num.specs.Names.{IsHostFrom, IsReadable, as_text, comma, host_text, number_within}
use Rattle.epic_num.proofs.OneSpelling.{as_from_spelling, number_spelling}
use Rattle.epic_audit.specs.ForgedText.{key_text}
use Rattle.epic_text.specs.RunScript.{as_named, is_comma, most32, most64}
use Rattle.epic_record.specs.VerdictWords.{host_in, key_named, key_of, fwd_named, field_named, dest_named}
use Rattle.epic_reread.specs.Rereading.{IsNamed}
use Rattle.epic_reread.proofs.Clean.{AreAbove, IsAbove, all_weaker, cut, joined_above}
use Rattle.epic_reread.proofs.Texts.{as_above, decimal_above}

pub number_read : (most n : ℕ) → most < 2 ^ 64 → n ≤ most → number_within most (decimal n) ≡ Some n
number_read most n small fits = (number_spelling most small (decimal n) n).1 (fits, refl)

pub as_read : (a : AsId) → IsReadable a.0 → as_named (as_text a.0) ≡ Some a
unfolding as_named
as_read a ok = ap (option_map (λ n. record { 0 = n })) ((as_from_spelling 1 (omega arith) (as_text a.0) a.0).1 (ok, refl))

host_read : (least : ℕ) → least < 2 ^ 16 → (h : HostId) → IsHostFrom least h → host_in least (as_text h.asn.0) (decimal h.host) ≡ Some h
host_read least small h ok =
    let asn = (as_from_spelling least small (as_text h.asn.0) h.asn.0).1 (ok.0, refl) in
    let host = number_read most32 h.host (omega arith) (omega (arith, ok.1)) in
    rw (asn, host) refl

-- the parts of a key's name
abbrev parts_of : KeyName → List (List ℕ)
parts_of (keys.Fwd a g) = codes "fwd" ∷ as_text a.0 ∷ decimal g ∷ []
parts_of (keys.Field a src epoch) =
    codes "field" ∷ as_text a.0 ∷ as_text src.asn.0 ∷ decimal src.host ∷ decimal epoch ∷ []
parts_of (keys.Dest dst src epoch) =
    codes "dest" ∷ as_text dst.asn.0 ∷ decimal dst.host ∷ as_text src.asn.0 ∷ decimal src.host ∷ decimal epoch ∷ []

key_parts : (k : KeyName) → key_text k ≡ join_with_byte comma (parts_of k)
unfolding key_text host_text
key_parts (keys.Fwd a g) = refl
key_parts (keys.Field a src epoch) =
    ap (λ m. codes "field" ++ (comma ∷ (as_text a.0 ++ (comma ∷ m)))) (append_assoc (as_text src.asn.0) (comma ∷ decimal src.host) (comma ∷ decimal epoch))
key_parts (keys.Dest dst src epoch) =
    ap (λ m. codes "dest" ++ (comma ∷ ((as_text dst.asn.0 ++ (comma ∷ decimal dst.host)) ++ (comma ∷ m)))) (append_assoc (as_text src.asn.0) (comma ∷ decimal src.host) (comma ∷ decimal epoch))
    ∙ ap (λ m. codes "dest" ++ (comma ∷ m)) (append_assoc (as_text dst.asn.0) (comma ∷ decimal dst.host) (comma ∷ (as_text src.asn.0 ++ (comma ∷ (decimal src.host ++ (comma ∷ decimal epoch))))))

parts_above : (k : KeyName) → IsNamed k → AreAbove 45 (parts_of k)
parts_above (keys.Fwd a g) ok = (refl, (as_above a.0 ok.0.0, (decimal_above g (omega (arith, ok.1)), tt)))
parts_above (keys.Field a src epoch) ok =
    (refl, (as_above a.0 ok.0.0, (as_above src.asn.0 ok.1.0.0, (decimal_above src.host (omega (arith, ok.1.1)), (decimal_above epoch (omega (arith, ok.2)), tt)))))
parts_above (keys.Dest dst src epoch) ok =
    (refl, (as_above dst.asn.0 ok.0.0.0, (decimal_above dst.host (omega (arith, ok.0.1)), (as_above src.asn.0 ok.1.0.0, (decimal_above src.host (omega (arith, ok.1.1)), (decimal_above epoch (omega (arith, ok.2)), tt))))))

pub key_above : (k : KeyName) → IsNamed k → IsAbove 44 (key_text k)
key_above k ok = rw (key_parts k) (joined_above comma 44 refl (parts_of k) (all_weaker 44 45 (parts_of k) (omega arith) (parts_above k ok)))

key_cut : (k : KeyName) → IsNamed k → slice_split is_comma (key_text k) ≡ parts_of k
key_cut k ok = ap (slice_split is_comma) (key_parts k) ∙ by k (parts_above k ok)
  where
    by : (k : KeyName) → AreAbove 45 (parts_of k) → slice_split is_comma (join_with_byte comma (parts_of k)) ≡ parts_of k
    by (keys.Fwd a g) h = cut comma 45 (omega arith) (codes "fwd") (as_text a.0 ∷ decimal g ∷ []) h
    by (keys.Field a src epoch) h = cut comma 45 (omega arith) (codes "field") (as_text a.0 ∷ as_text src.asn.0 ∷ decimal src.host ∷ decimal epoch ∷ []) h
    by (keys.Dest dst src epoch) h =
        cut comma 45 (omega arith) (codes "dest") (as_text dst.asn.0 ∷ decimal dst.host ∷ as_text src.asn.0 ∷ decimal src.host ∷ decimal epoch ∷ []) h

fwd_read : (a : AsId) (g : ℕ) → IsNamed (keys.Fwd a g) → fwd_named (as_text a.0) (decimal g) ≡ Some (keys.Fwd a g)
fwd_read a g ok = rw (as_read a ok.0, number_read most32 g (omega arith) (omega (arith, ok.1))) refl

field_read : (a : AsId) (src : HostId) (epoch : ℕ) → IsNamed (keys.Field a src epoch)
    → field_named (as_text a.0) (as_text src.asn.0) (decimal src.host) (decimal epoch) ≡ Some (keys.Field a src epoch)
field_read a src epoch ok =
    let host = host_read 0 (omega arith) src ok.1 in
    let asn = as_read a ok.0 in
    let number = number_read most64 epoch (omega arith) (omega (arith, ok.2)) in
    ap (λ o. option_map (λ p. keys.Field p.0 p.1.0 p.1.1) (option_zip o (option_zip (host_in 0 (as_text src.asn.0) (decimal src.host)) (number_within most64 (decimal epoch))))) asn
    ∙ ap (λ o. option_map (λ p. keys.Field p.0 p.1.0 p.1.1) (option_zip (Some a) (option_zip o (number_within most64 (decimal epoch))))) host
    ∙ ap (λ o. option_map (λ p. keys.Field p.0 p.1.0 p.1.1) (option_zip (Some a) (option_zip (Some src) o))) number

dest_read : (dst src : HostId) (epoch : ℕ) → IsNamed (keys.Dest dst src epoch)
    → dest_named (as_text dst.asn.0) (decimal dst.host) (as_text src.asn.0) (decimal src.host) (decimal epoch) ≡ Some (keys.Dest dst src epoch)
dest_read dst src epoch ok =
    let to = host_read 1 (omega arith) dst ok.0 in
    let from = host_read 0 (omega arith) src ok.1 in
    let number = number_read most64 epoch (omega arith) (omega (arith, ok.2)) in
    ap (λ o. option_map (λ p. keys.Dest p.0 p.1.0 p.1.1) (option_zip o (option_zip (host_in 0 (as_text src.asn.0) (decimal src.host)) (number_within most64 (decimal epoch))))) to
    ∙ ap (λ o. option_map (λ p. keys.Dest p.0 p.1.0 p.1.1) (option_zip (Some dst) (option_zip o (number_within most64 (decimal epoch))))) from
    ∙ ap (λ o. option_map (λ p. keys.Dest p.0 p.1.0 p.1.1) (option_zip (Some dst) (option_zip (Some src) o))) number

parts_read : (k : KeyName) → IsNamed k → key_of (parts_of k) ≡ Some k
parts_read (keys.Fwd a g) ok = fwd_read a g ok
parts_read (keys.Field a src epoch) ok = field_read a src epoch ok
parts_read (keys.Dest dst src epoch) ok = dest_read dst src epoch ok

pub key_read : (k : KeyName) → IsNamed k → key_named (key_text k) ≡ Some k
unfolding key_named
key_read k ok = ap key_of (key_cut k ok) ∙ parts_read k ok
