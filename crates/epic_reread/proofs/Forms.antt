-- Each form of a line's words is read as what it was written of.
use Rattle.std.proofs.Common.{◌≡◌, ℕ, ◌+◌, ◌<◌, ◌^◌, List, [], ◌∷◌, refl, ap, arith, codes, decimal, Option, Some, None, Ok}
use Rattle.std.specs.Prelude.{option_and_then}
use Rattle.hex.specs.Hex.{encode_lower}
use Rattle.epic_num.specs.declared.hop.HopName.{HopName}
use Rattle.epic_num.specs.declared.key_name.KeyName.{KeyName}
use Rattle.epic_num.specs.declared.key_name.KeyName.TheVariants as keys
use Rattle.epic_num.specs.declared.verdict.Part.{Part}
use Rattle.epic_num.specs.declared.verdict.Part.TheVariants.{Link, Sigma}
use Rattle.epic_num.specs.Bodies.{body_bytes}
use Rattle.epic_num.specs.Names.{as_text, number_within}
use Rattle.epic_layout.specs.Contents.{IsBytes}
use Rattle.epic_audit.specs.ForgedText.{key_text}
use Rattle.epic_text.specs.RunScript.{most8, most32}
use Rattle.epic_text.specs.VerdictText.{part_word}
use Rattle.epic_record.specs.declared.told.Told.{Told}
use Rattle.epic_record.specs.declared.told.Told.TheVariants as told
use Rattle.epic_record.specs.declared.told.ToldForgery.{ToldForgery}
use Rattle.epic_record.specs.declared.told.ToldForgery.TheVariants as what
use Rattle.epic_record.specs.VerdictWords.{field_key, hop_named, over_key_named, over_named, signed_named, verdict_of}
use Rattle.epic_reread.specs.Rereading.{CanBeTold, IsFieldKey, IsNamed, IsNamedHop}
use Rattle.epic_reread.proofs.Bytes.{body_above, body_read, bytes_above, bytes_read}
use Rattle.epic_reread.proofs.Clean.{AreAbove, IsAbove, weaker}
use Rattle.epic_reread.proofs.Readings.{as_read, key_above, key_read, number_read}
use Rattle.epic_reread.proofs.Texts.{as_above, decimal_above}

-- ---- the words

abbrev over_word : Option KeyName → List ℕ
over_word None = codes "sigma"
over_word (Some key) = key_text key

abbrev pub forged_as : ToldForgery → List ℕ → List ℕ → List ℕ → List (List ℕ)
forged_as what.Issue key message tag = codes "issue" ∷ key ∷ message ∷ tag ∷ []
forged_as (what.Over over under) key message tag =
    codes "issue-over" ∷ key ∷ message ∷ over_word over ∷ encode_lower under ∷ tag ∷ []
forged_as what.Field key message tag = codes "field" ∷ key ∷ message ∷ tag ∷ []
forged_as (what.Update hop) key message tag = codes "update" ∷ decimal hop ∷ key ∷ message ∷ tag ∷ []
forged_as what.Dest key message tag = codes "dest" ∷ key ∷ message ∷ tag ∷ []

abbrev with_hop : HopName → List (List ℕ) → List (List ℕ)
with_hop x more = as_text x.asn.0 ∷ decimal x.generation ∷ encode_lower (body_bytes x.body) ∷ more

-- the words of what is told
abbrev pub told_words : Told → List (List ℕ)
told_words (told.Proved first None) = codes "proved" ∷ decimal first ∷ []
told_words (told.Proved first (Some second)) = codes "proved" ∷ decimal first ∷ decimal second ∷ []
told_words told.Unclaimed = codes "unclaimed" ∷ []
told_words (told.Opened step) = codes "opened" ∷ decimal step ∷ []
told_words (told.Forged forged key message tag) =
    codes "forged" ∷ forged_as forged (key_text key) (encode_lower message) (encode_lower tag)
told_words (told.Collided part left right tag) =
    codes "collided" ∷ part_word part ∷ with_hop left (with_hop right (encode_lower tag ∷ []))

-- ---- they have no space

number_above : (n : ℕ) → n < 2 ^ 32 → IsAbove 44 (decimal n)
number_above n small = weaker 44 45 (decimal n) (omega arith) (decimal_above n (omega (arith, small)))

hex_above : (bytes : List ℕ) → IsBytes bytes → IsAbove 44 (encode_lower bytes)
hex_above bytes is = weaker 44 45 (encode_lower bytes) (omega arith) (bytes_above bytes is)

over_above : (key : Option KeyName) → IsFieldKey key → IsAbove 44 (over_word key)
over_above None ok = refl
over_above (Some (keys.Fwd a g)) ok = absurd ok
over_above (Some (keys.Field a src epoch)) ok = key_above (keys.Field a src epoch) ok
over_above (Some (keys.Dest dst src epoch)) ok = absurd ok

hop_above : (x : HopName) (more : List (List ℕ)) → IsNamedHop x → AreAbove 44 more → AreAbove 44 (with_hop x more)
hop_above x more ok h = (
  weaker 44 45 (as_text x.asn.0) (omega arith) (as_above x.asn.0 ok.asn.0),
  (number_above x.generation ok.generation, (weaker 44 45 (encode_lower (body_bytes x.body)) (omega arith) (body_above x.body ok.body ok.link), h)),
)

part_above : (part : Part) → IsAbove 44 (part_word part)
part_above Link = refl
part_above Sigma = refl

pub told_above : (v : Told) → CanBeTold v → AreAbove 44 (told_words v)
unfolding CanBeTold
told_above (told.Proved first None) ok = (refl, (number_above first ok.0, tt))
told_above (told.Proved first (Some second)) ok = (refl, (number_above first ok.0, (number_above second ok.1, tt)))
told_above told.Unclaimed ok = (refl, tt)
told_above (told.Opened step) ok = (refl, (number_above step ok, tt))
told_above (told.Forged what.Issue key message tag) ok =
    (refl, (refl, (key_above key ok.1, (hex_above message ok.2, (hex_above tag ok.3, tt)))))
told_above (told.Forged (what.Over over under) key message tag) ok =
    (refl, (refl, (key_above key ok.1, (hex_above message ok.2, (over_above over ok.0.0, (hex_above under ok.0.1, (hex_above tag ok.3, tt)))))))
told_above (told.Forged what.Field key message tag) ok =
    (refl, (refl, (key_above key ok.1, (hex_above message ok.2, (hex_above tag ok.3, tt)))))
told_above (told.Forged (what.Update hop) key message tag) ok =
    (refl, (refl, (number_above hop (omega (arith, ok.0)), (key_above key ok.1, (hex_above message ok.2, (hex_above tag ok.3, tt))))))
told_above (told.Forged what.Dest key message tag) ok =
    (refl, (refl, (key_above key ok.1, (hex_above message ok.2, (hex_above tag ok.3, tt)))))
told_above (told.Collided part left right tag) ok =
    (refl, (part_above part, hop_above left (with_hop right (encode_lower tag ∷ [])) ok.0 (hop_above right (encode_lower tag ∷ []) ok.1 (hex_above tag ok.2, tt))))

-- ---- and are read

number32_read : (n : ℕ) → n < 2 ^ 32 → number_within most32 (decimal n) ≡ Some n
number32_read n small = number_read most32 n (omega arith) (omega (arith, small))

signed_read : (n : ℕ) (key : KeyName) (message : List ℕ) → IsNamed key → IsBytes message
    → signed_named n (key_text key) (encode_lower message) ≡ Ok (key, message)
signed_read n key message ok is = rw (key_read key ok, bytes_read message is) refl

hop_read : (n : ℕ) (x : HopName) → IsNamedHop x
    → hop_named n (as_text x.asn.0) (decimal x.generation) (encode_lower (body_bytes x.body)) ≡ Ok x
hop_read n x ok =
    rw (as_read x.asn ok.asn, number32_read x.generation ok.generation, body_read x.body ok.body ok.link) refl

proved_read : (n j first : ℕ) (second : Option ℕ) → CanBeTold (told.Proved first second)
    → verdict_of n (Some j) (told_words (told.Proved first second)) ≡ Ok (told.Proved first second)
unfolding CanBeTold
proved_read n j first None ok = rw (number32_read first ok.0) refl
proved_read n j first (Some second) ok = rw (number32_read first ok.0, number32_read second ok.1) refl

opened_read : (n j step : ℕ) → step < 2 ^ 32 → verdict_of n (Some j) (told_words (told.Opened step)) ≡ Ok (told.Opened step)
opened_read n j step ok = rw (number32_read step ok) refl

over_key_read : (key : Option KeyName) → IsFieldKey key → over_key_named (over_word key) ≡ Some key
unfolding over_key_named key_text
over_key_read None ok = refl
over_key_read (Some (keys.Fwd a g)) ok = absurd ok
over_key_read (Some (keys.Field a src epoch)) ok = ap (option_and_then field_key) (key_read (keys.Field a src epoch) ok)
over_key_read (Some (keys.Dest dst src epoch)) ok = absurd ok

over_read : (n : ℕ) (key : Option KeyName) (message : List ℕ) → IsFieldKey key → IsBytes message
    → over_named n (over_word key) (encode_lower message) ≡ Ok (what.Over key message)
over_read n key message ok is = rw (over_key_read key ok, bytes_read message is) refl

forged_read : (n j : ℕ) (forged : ToldForgery) (key : KeyName) (message tag : List ℕ) → CanBeTold (told.Forged forged key message tag)
    → verdict_of n (Some j) (told_words (told.Forged forged key message tag)) ≡ Ok (told.Forged forged key message tag)
unfolding CanBeTold
forged_read n j what.Issue key message tag ok = rw (key_read key ok.1, bytes_read message ok.2, bytes_read tag ok.3) refl
forged_read n j (what.Over over under) key message tag ok =
    rw (key_read key ok.1, bytes_read message ok.2, over_key_read over ok.0.0, bytes_read under ok.0.1, bytes_read tag ok.3) refl
forged_read n j what.Field key message tag ok = rw (key_read key ok.1, bytes_read message ok.2, bytes_read tag ok.3) refl
forged_read n j (what.Update hop) key message tag ok =
    rw (number_read most8 hop (omega arith) (omega (arith, ok.0)), key_read key ok.1, bytes_read message ok.2, bytes_read tag ok.3) refl
forged_read n j what.Dest key message tag ok = rw (key_read key ok.1, bytes_read message ok.2, bytes_read tag ok.3) refl

collided_read : (n j : ℕ) (part : Part) (left right : HopName) (tag : List ℕ) → CanBeTold (told.Collided part left right tag)
    → verdict_of n (Some j) (told_words (told.Collided part left right tag)) ≡ Ok (told.Collided part left right tag)
unfolding CanBeTold
collided_read n j Link left right tag ok =
    rw (hop_read (n + 2) left ok.0, hop_read (n + 5) right ok.1, bytes_read tag ok.2) refl
collided_read n j Sigma left right tag ok =
    rw (hop_read (n + 2) left ok.0, hop_read (n + 5) right ok.1, bytes_read tag ok.2) refl

pub told_read : (n j : ℕ) (v : Told) → CanBeTold v → verdict_of n (Some j) (told_words v) ≡ Ok v
unfolding CanBeTold
told_read n j (told.Proved first second) ok = proved_read n j first second ok
told_read n j told.Unclaimed ok = refl
told_read n j (told.Opened step) ok = opened_read n j step ok
told_read n j (told.Forged forged key message tag) ok = forged_read n j forged key message tag ok
told_read n j (told.Collided part left right tag) ok = collided_read n j part left right tag ok
