-- Hosts, holders, packets and the numbers of issues are read from their texts.
use Rattle.std.proofs.Common.{◌≡◌, ℕ, ◌≤◌, ◌<◌, ◌^◌, ◌==◌, ◌||◌, Bool, true, false, cond, List, [], ◌∷◌, ◌++◌, length, map, refl, ap, ◌∙◌, arith, decimal, nat_le, Some}
use Rattle.std.specs.Prelude.{option_map}
use Rattle.std.specs.Fmt.{digits}
use Rattle.std.specs.List.{All, list_all, list_any, slice_split}
use Rattle.std.proofs.lemmas.Bool.{and_parts}
use Rattle.std.proofs.lemmas.List.Elements.{All-head, All-tail}
use Rattle.arrayvec.specs.ArrayVec.{ArrayVec}
use Rattle.hex.specs.Hex.{encode_lower}
use Rattle.epic_num.specs.declared.key_name.Holder.{Holder}
use Rattle.epic_num.specs.declared.key_name.Holder.TheVariants as holder
use Rattle.epic_num.specs.declared.name.HostId.{HostId}
use Rattle.epic_num.specs.Names.{IsHostFrom, as_text, comma, host_from, host_of, host_text, number_within}
use Rattle.epic_num.proofs.OneSpelling.{host_from_spelling}
use Rattle.epic_layout.specs.Contents.{IsBytes}
use Rattle.epic_text.specs.Line.{bytes_text}
use Rattle.epic_text.specs.Report.{numbers_text}
use Rattle.epic_text.specs.RunScript.{all_there, as_named, bytes_of, holder_named, is_comma, most8, most32, numbers_in, segments_of}
use Rattle.epic_record.specs.LedgerText.{checked_text, holder_text}
use Rattle.epic_reread.specs.LedgerRereading.{AreLastIssues, IsNamedHolder}
use Rattle.epic_reread.proofs.Bytes.{bytes_above, bytes_read}
use Rattle.epic_reread.proofs.Clean.{above, AreAbove, IsAbove, all_weaker, both_above, cut, joined_above, next_above, other, weaker}
use Rattle.epic_reread.proofs.Readings.{as_read, number_read}
use Rattle.epic_reread.proofs.Texts.{as_above, decimal_above}

-- ---- numbers and ASes

pub number_above : (n : ℕ) → n < 2 ^ 64 → IsAbove 44 (decimal n)
number_above n small = weaker 44 45 (decimal n) (omega arith) (decimal_above n small)

pub as_word_above : (a : ℕ) → a < 2 ^ 64 → IsAbove 44 (as_text a)
as_word_above a small = weaker 44 45 (as_text a) (omega arith) (as_above a small)

pub checked_read : (checked : Bool) → number_within most8 (checked_text checked) ≡ Some (cond checked 1 0)
unfolding digits
checked_read true = number_read most8 1 (omega arith) (omega arith)
checked_read false = number_read most8 0 (omega arith) (omega arith)

-- ---- hosts

pub host_above : (least : ℕ) (h : HostId) → IsHostFrom least h → IsAbove 44 (host_text h)
unfolding host_text
host_above least h ok =
    both_above 44 (as_text h.asn.0) (comma ∷ decimal h.host) (as_word_above h.asn.0 ok.0.0)
    (next_above 44 comma (decimal h.host) refl (number_above h.host (omega (arith, ok.1))))

pub host_whole : (least : ℕ) → least < 2 ^ 16 → (h : HostId) → IsHostFrom least h → host_from least (host_text h) ≡ Some h
host_whole least small h ok = (host_from_spelling least small (host_text h) h).1 (ok, refl)

-- ---- holders

no_comma : (text : List ℕ) → IsAbove 45 text → list_any is_comma text ≡ false
no_comma [] h = refl
no_comma (c ∷ cs) h =
    let p = and_parts (above 45 c) (list_all (above 45) cs) h in
    rw (other comma 45 c (omega arith) p.0) (no_comma cs p.1)

has_comma : (xs ys : List ℕ) → list_any is_comma (xs ++ (comma ∷ ys)) ≡ true
has_comma [] ys = refl
has_comma (x ∷ xs) ys =
    let rest = has_comma xs ys in
    elim (x == comma) as (λ b. ◌||◌ b (list_any is_comma (xs ++ (comma ∷ ys))) ≡ true) [ true ↦ refl | false ↦ rest ]

pub holder_above : (who : Holder) → IsNamedHolder who → IsAbove 44 (holder_text who)
unfolding holder_text
holder_above (holder.As a) ok = as_word_above a.0 ok.0
holder_above (holder.Host h) ok = host_above 1 h ok

pub holder_read : (who : Holder) → IsNamedHolder who → holder_named (holder_text who) ≡ Some who
unfolding holder_named holder_text host_text
holder_read (holder.As a) ok =
    ap (λ b. cond b (option_map (λ h. holder.Host h) (host_of (as_text a.0))) (option_map (λ s. holder.As s) (as_named (as_text a.0))))
    (no_comma (as_text a.0) (as_above a.0 ok.0))
    ∙ ap (option_map (λ s. holder.As s)) (as_read a ok)
holder_read (holder.Host h) ok =
    ap (λ b. cond b (option_map (λ s. holder.Host s) (host_of (host_text h))) (option_map (λ a. holder.As a) (as_named (host_text h))))
    (has_comma (as_text h.asn.0) (decimal h.host))
    ∙ ap (option_map (λ s. holder.Host s)) (host_whole 1 (omega arith) h ok)

-- ---- bytes, and none as `-`

pub packet_above : (bytes : List ℕ) → IsBytes bytes → IsAbove 44 (bytes_text bytes)
unfolding bytes_text
packet_above [] is = refl
packet_above (b ∷ bytes) is = weaker 44 45 (encode_lower (b ∷ bytes)) (omega arith) (bytes_above (b ∷ bytes) is)

pub packet_read : (bytes : List ℕ) → IsBytes bytes → bytes_of (bytes_text bytes) ≡ Some bytes
unfolding bytes_text bytes_of
packet_read [] is = refl
packet_read (b ∷ bytes) is = bytes_read (b ∷ bytes) is

-- ---- the numbers of issues

each_above : (numbers : List ℕ) → All (λ n. n < 2 ^ 32) numbers → AreAbove 45 (map decimal numbers)
each_above [] h = tt
each_above (n ∷ more) h = (
  decimal_above n (omega (arith, All-head (λ x. x < 2 ^ 32) n more h)),
  each_above more (All-tail (λ x. x < 2 ^ 32) n more h),
)

pub numbers_above : (numbers : List ℕ) → AreLastIssues numbers → IsAbove 44 (numbers_text numbers)
numbers_above numbers ok =
    joined_above comma 44 refl (map decimal numbers) (all_weaker 44 45 (map decimal numbers) (omega arith) (each_above numbers ok.each))

numbers_cut : (numbers : List ℕ) → AreLastIssues numbers → slice_split is_comma (numbers_text numbers) ≡ map decimal numbers
numbers_cut [] ok = absurd (omega (arith, ok.some))
numbers_cut (n ∷ more) ok = cut comma 45 (omega arith) (decimal n) (map decimal more) (each_above (n ∷ more) ok.each)

each_read : (numbers : List ℕ) → All (λ n. n < 2 ^ 32) numbers → all_there (map (number_within most32) (map decimal numbers)) ≡ Some numbers
each_read [] h = refl
each_read (n ∷ more) h =
    rw (
      number_read most32 n (omega arith) (omega (arith, All-head (λ x. x < 2 ^ 32) n more h)),
      each_read more (All-tail (λ x. x < 2 ^ 32) n more h),
    ) refl

are_few : (numbers : List ℕ) → length numbers ≤ 3 → nat_le (length (map decimal numbers)) 3 ≡ true
are_few [] few = refl
are_few (a ∷ []) few = refl
are_few (a ∷ b ∷ []) few = refl
are_few (a ∷ b ∷ c ∷ []) few = refl
are_few (a ∷ b ∷ c ∷ d ∷ more) few = absurd (omega (arith, few))

numbers_read : (segments : ArrayVec ℕ) → AreLastIssues segments.items → numbers_in (map decimal segments.items) ≡ Some segments
numbers_read segments ok = rw (are_few segments.items ok.few, each_read segments.items ok.each) refl

pub segments_read : (segments : ArrayVec ℕ) → AreLastIssues segments.items → segments_of (numbers_text segments.items) ≡ Some segments
unfolding segments_of
segments_read segments ok = ap numbers_in (numbers_cut segments.items ok) ∙ numbers_read segments ok
