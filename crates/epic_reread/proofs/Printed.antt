-- The words that a run writes of a verdict are those of what it is told as.
use Rattle.std.proofs.Common.{◌≡◌, ℕ, ◌==◌, ◌<◌, Bool, true, false, cond, List, [], ◌∷◌, ◌++◌, length, refl, ap, ◌∙◌, arith, codes, decimal, append_assoc, Some, None}
use Rattle.std.proofs.lemmas.List.{append_cancel_right}
use Rattle.hex.specs.Hex.{encode_lower}
use Rattle.epic_num.specs.declared.hop.HopName.{HopName}
use Rattle.epic_num.specs.declared.hop.Level.{Level}
use Rattle.epic_num.specs.declared.hop.Level.TheVariants.{L0, L1, L2, L3}
use Rattle.epic_num.specs.declared.verdict.Collision.{Collision}
use Rattle.epic_num.specs.declared.verdict.ForgedKind.{ForgedKind}
use Rattle.epic_num.specs.declared.verdict.ForgedKind.TheVariants.{Issue, Field, Update, Dest}
use Rattle.epic_num.specs.declared.verdict.Forgery.{Forgery}
use Rattle.epic_num.specs.declared.verdict.Verdict.{Verdict}
use Rattle.epic_num.specs.declared.verdict.Verdict.TheVariants.{Proved, Unclaimed, Opened, Forged, Collided}
use Rattle.epic_num.specs.Bodies.{body_bytes}
use Rattle.epic_num.specs.Levels.{is_tagged, level_of}
use Rattle.epic_num.specs.Messages.{authenticator_message}
use Rattle.epic_num.specs.Names.{as_text}
use Rattle.epic_layout.specs.Contents.{Contents, field}
use Rattle.epic_layout.specs.Route.{body}
use Rattle.epic_topo.specs.Network.{Network}
use Rattle.epic_keys.specs.Keys.{owner}
use Rattle.epic_fields.specs.PacketTags.{field_name, hop_message}
use Rattle.epic_audit.specs.ForgedText.{authenticator_text, field_text, forged_hop, forged_words, key_text, kind_words, shared_words, static_words, words_text}
use Rattle.epic_text.specs.VerdictText.{common_tag, hop_text, part_word, proved_words, verdict_words}
use Rattle.epic_record.specs.declared.told.Told.{Told}
use Rattle.epic_record.specs.declared.told.Told.TheVariants as told
use Rattle.epic_record.specs.declared.told.ToldForgery.TheVariants as what
use Rattle.epic_record.specs.VerdictFile.{told_at_dest, told_at_hop}
use Rattle.epic_judging.specs.Telling.{proved_told, static_what, told_message, told_of, told_tag, told_what}
use Rattle.epic_reread.specs.Rereading.{DestLinesAreReadBack, HopLinesAreReadBack}
use Rattle.epic_reread.proofs.Forms.{forged_as, told_words}
use Rattle.epic_reread.proofs.WholeLines.{dest_line_read, hop_line_read}

-- two lists of words, neither of them empty, have one text
pub record IsSame (xs ys : List (List ℕ)) : Type 0 where
  pub text : words_text xs ≡ words_text ys
  pub some : 0 < length xs
  pub other : 0 < length ys

pub next : (word : List ℕ) (xs ys : List (List ℕ)) → IsSame xs ys → IsSame (word ∷ xs) (word ∷ ys)
next word [] ys s = absurd (omega (arith, s.some))
next word (x ∷ xs) [] s = absurd (omega (arith, s.other))
next word (x ∷ xs) (y ∷ ys) s = record {
  text = ap (λ m. word ++ (32 ∷ m)) s.text;
  some = omega arith;
  other = omega arith;
}

told_some : (v : Told) → 0 < length (told_words v)
told_some (told.Proved first None) = omega arith
told_some (told.Proved first (Some second)) = omega arith
told_some told.Unclaimed = omega arith
told_some (told.Opened step) = omega arith
told_some (told.Forged forged key message tag) = omega arith
told_some (told.Collided part left right tag) = omega arith

equal : (xs : List (List ℕ)) (v : Told) → xs ≡ told_words v → IsSame xs (told_words v)
equal xs v e = record { text = ap words_text e; some = omega (arith, ap length e, told_some v); other = told_some v }

proved_same : (issue send : ℕ) → proved_words issue send ≡ told_words (proved_told issue send)
proved_same issue send = by (issue == 0) (send == 0)
  where
    by : (b c : Bool)
        → cond b (codes "proved" ∷ decimal send ∷ []) (cond c (codes "proved" ∷ decimal issue ∷ []) (codes "proved" ∷ decimal issue ∷ decimal send ∷ []))
        ≡ told_words (cond b (told.Proved send None) (cond c (told.Proved issue None) (told.Proved issue (Some send))))
    by true c = refl
    by false true = refl
    by false false = refl

-- a hop that was never issued, by the level
issue_same : (b : Bool) (level : Level) (t : Network) (p : Contents) (f : Forgery)
    → cond b (shared_words t p f) (static_words level p f)
    ≡ forged_as (cond b (what.Over (Some (field_name t (owner f.key) p)) (hop_message t (forged_hop p f) p f.hop)) (static_what level p f))
    (key_text f.key) (encode_lower (authenticator_message (body p.route f.hop))) (encode_lower (field p f.hop))
unfolding authenticator_text field_text
issue_same true level t p f = refl
issue_same false L0 t p f = refl
issue_same false L1 t p f = refl
issue_same false L2 t p f = refl
issue_same false L3 t p f = refl

kind_same : (kind : ForgedKind) (t : Network) (p : Contents) (f : Forgery)
    → kind_words kind t p f ≡ forged_as (told_what kind t p f) (key_text f.key) (encode_lower (told_message kind t p f)) (encode_lower (told_tag kind p f))
unfolding field_text
kind_same Issue t p f = issue_same (is_tagged p.first) (level_of p.first) t p f
kind_same Field t p f = refl
kind_same Update t p f = refl
kind_same Dest t p f = refl

-- the text of a hop is three words
hop_words : (x : HopName) (rest : List ℕ)
    → hop_text x ++ rest ≡ as_text x.asn.0 ++ (32 ∷ (decimal x.generation ++ (32 ∷ (encode_lower (body_bytes x.body) ++ rest))))
unfolding hop_text
hop_words x rest =
    append_assoc (as_text x.asn.0) (32 ∷ (decimal x.generation ++ (32 ∷ encode_lower (body_bytes x.body)))) rest
    ∙ ap (λ m. as_text x.asn.0 ++ (32 ∷ m)) (append_assoc (decimal x.generation) (32 ∷ encode_lower (body_bytes x.body)) rest)

collided_same : (t : Network) (p : Contents) (c : Collision) → IsSame (verdict_words t p (Collided c)) (told_words (told_of t p (Collided c)))
unfolding verdict_words told_of
collided_same t p c =
    let tag = encode_lower (common_tag t c.part c.left) in
    let left = c.left in
    record {
      text = ap (λ m. codes "collided" ++ (32 ∷ (part_word c.part ++ (32 ∷ m))))
          (hop_words left (32 ∷ (hop_text c.right ++ (32 ∷ tag)))
          ∙ ap (λ m. as_text left.asn.0 ++ (32 ∷ (decimal left.generation ++ (32 ∷ (encode_lower (body_bytes left.body) ++ (32 ∷ m)))))) (hop_words c.right (32 ∷ tag)));
      some = omega arith;
      other = omega arith;
    }

pub verdict_same : (t : Network) (p : Contents) (v : Verdict) → IsSame (verdict_words t p v) (told_words (told_of t p v))
unfolding verdict_words told_of forged_words
verdict_same t p (Proved issue send) = equal (proved_words issue send) (proved_told issue send) (proved_same issue send)
verdict_same t p Unclaimed = equal (codes "unclaimed" ∷ []) told.Unclaimed refl
verdict_same t p (Opened step) = equal (codes "opened" ∷ decimal step ∷ []) (told.Opened step) refl
verdict_same t p (Forged f) =
    equal (codes "forged" ∷ kind_words f.kind t p f) (told.Forged (told_what f.kind t p f) f.key (told_message f.kind t p f) (told_tag f.kind p f))
    (ap (λ words. codes "forged" ∷ words) (kind_same f.kind t p f))
verdict_same t p (Collided c) = collided_same t p c

pub hop_lines_read : HopLinesAreReadBack
hop_lines_read t p hop v line small ok is =
    let words = codes "hop" ∷ decimal hop ∷ verdict_words t p v in
    let same = next (codes "hop") (decimal hop ∷ verdict_words t p v) (decimal hop ∷ told_words (told_of t p v))
    (next (decimal hop) (verdict_words t p v) (told_words (told_of t p v)) (verdict_same t p v)) in
    ap (told_at_hop hop) (append_cancel_right line (words_text words) (10 ∷ []) is ∙ same.text)
    ∙ hop_line_read hop (told_of t p v) small ok

pub dest_lines_read : DestLinesAreReadBack
dest_lines_read t p v line ok is =
    let words = codes "dest" ∷ verdict_words t p v in
    let same = next (codes "dest") (verdict_words t p v) (told_words (told_of t p v)) (verdict_same t p v) in
    ap told_at_dest (append_cancel_right line (words_text words) (10 ∷ []) is ∙ same.text)
    ∙ dest_line_read (told_of t p v) ok
