-- What readers tell, with damage whatever its form.
use Rattle.std.proofs.Common.{◌≡◌, Bool, true, false, cond, List, [], ◌∷◌, Option, Some, None, Result, Ok, Err, refl, sym, ap, ◌∙◌}
use Rattle.std.specs.Option.{option_map}
use Rattle.epic_capture.specs.declared.damage.CaptureError.{CaptureError}
use Rattle.epic_capture.specs.Records.{Captured, damaged}
use Rattle.epic_capture.specs.Reading.{Reading, capture}
use Rattle.epic_capture.specs.Streams.{Follows, Stream, first_of, next as next_in}
use Rattle.epic_pcapng.specs.declared.damage.NgError.{NgError}
use Rattle.epic_pcapng.specs.Reading.{Reading as NgReading, ngcapture}
use Rattle.epic_feed.specs.declared.damage.Damage.{Damage}
use Rattle.epic_feed.specs.declared.damage.Damage.TheVariants.{Classic, Ng}
use Rattle.epic_feed.specs.Forms.{classic, is_early, ng, told_as, told_stream}

abbrev told_answer : {E : Type 0} → (E → Damage) → Result (Option Captured) E → Result (Option Captured) Damage
told_answer tell (Ok x) = Ok x
told_answer tell (Err e) = Err (tell e)

abbrev item_of : {E : Type 0} → Captured → Result (Option Captured) E → Captured
item_of other (Ok (Some x)) = x
item_of other (Ok None) = other
item_of other (Err e) = other

abbrev damage_of : Damage → Result (Option Captured) Damage → Damage
damage_of other (Ok x) = other
damage_of other (Err e) = e

module _ {S E : Type 0} (tell : E → Damage) (stream : Stream S E) (same : (e : E) → is_early (tell e) ≡ stream.is_early e) where
  first_told : (items : List Captured) (damage : Option E)
      → first_of is_early items (option_map tell damage) ≡ told_answer tell (first_of stream.is_early items damage)
  first_told (x ∷ xs) damage = refl
  first_told [] None = refl
  first_told [] (Some e) = by (is_early (tell e)) (stream.is_early e) (same e)
    where
      by : (b c : Bool) → b ≡ c → ◌≡◌ {A = Result (Option Captured) Damage} (cond b (Ok None) (Err (tell e))) (told_answer tell (cond c (Ok None) (Err e)))
      by true true is = refl
      by false false is = refl
      by true false is = absurd (cc)
      by false true is = absurd (cc)

  next_told : (s : S) → next_in (told_stream tell stream) s ≡ told_answer tell (next_in stream s)
  next_told s = first_told (stream.to_come s []).items (stream.to_come s []).damage

  some_told : (old new : S) (x : Captured) → Follows stream old (Ok (Some x)) new → Follows (told_stream tell stream) old (Ok (Some x)) new
  some_told old new x f = record {
    same = λ rest. ap (told_as tell) (f.same rest);
    stays = λ e rest is. absurd (cc);
    fed = f.fed;
    again = λ is. absurd (cc);
    room = λ is. absurd (cc);
    limit = λ is. absurd (cc);
    fewer = λ y is. f.fewer y (ap (λ z. Ok (Some z)) (ap (item_of x) is));
  }

  none_told : (old new : S) → Follows stream old (Ok None) new → Follows (told_stream tell stream) old (Ok None) new
  none_told old new f = record {
    same = λ rest. ap (told_as tell) (f.same rest);
    stays = λ e rest is. absurd (cc);
    fed = f.fed;
    again = λ is. next_told new ∙ ap (told_answer tell) (f.again refl);
    room = λ is. f.room refl;
    limit = λ is. f.limit refl;
    fewer = λ y is. absurd (cc);
  }

  err_told : (old new : S) (e : E) → Follows stream old (Err e) new → Follows (told_stream tell stream) old (Err (tell e)) new
  err_told old new e f = record {
    same = λ rest. ap (told_as tell) (f.same rest);
    stays = λ d rest is. ap (told_as tell) (f.stays e rest refl) ∙ ap (λ (x : Damage). damaged x) (ap (damage_of (tell e)) is);
    fed = f.fed;
    again = λ is. absurd (cc);
    room = λ is. absurd (cc);
    limit = λ is. absurd (cc);
    fewer = λ y is. absurd (cc);
  }

-- ---- the two forms

pub classic_some : (old new : Reading) (x : Captured) → Follows capture old (Ok (Some x)) new → Follows classic old (Ok (Some x)) new
classic_some = some_told (λ e. Classic e) capture (λ e. refl)

pub classic_none : (old new : Reading) → Follows capture old (Ok None) new → Follows classic old (Ok None) new
classic_none = none_told (λ e. Classic e) capture (λ e. refl)

pub classic_err : (old new : Reading) (e : CaptureError) → Follows capture old (Err e) new → Follows classic old (Err (Classic e)) new
classic_err = err_told (λ e. Classic e) capture (λ e. refl)

pub ng_some : (old new : NgReading) (x : Captured) → Follows ngcapture old (Ok (Some x)) new → Follows ng old (Ok (Some x)) new
ng_some = some_told (λ e. Ng e) ngcapture (λ e. refl)

pub ng_none : (old new : NgReading) → Follows ngcapture old (Ok None) new → Follows ng old (Ok None) new
ng_none = none_told (λ e. Ng e) ngcapture (λ e. refl)

pub ng_err : (old new : NgReading) (e : NgError) → Follows ngcapture old (Err e) new → Follows ng old (Err (Ng e)) new
ng_err = err_told (λ e. Ng e) ngcapture (λ e. refl)

-- what comes next
pub classic_next : (s : Reading) (a : Result (Option Captured) CaptureError) → a ≡ next_in capture s → told_answer (λ e. Classic e) a ≡ next_in classic s
classic_next s a is = ap (told_answer (λ e. Classic e)) is ∙ sym (next_told (λ e. Classic e) capture (λ e. refl) s)

pub ng_next : (s : NgReading) (a : Result (Option Captured) NgError) → a ≡ next_in ngcapture s → told_answer (λ e. Ng e) a ≡ next_in ng s
ng_next s a is = ap (told_answer (λ e. Ng e)) is ∙ sym (next_told (λ e. Ng e) ngcapture (λ e. refl) s)
