-- Each answer of `hop` holds.
use Rattle.std.proofs.Common.{◌≡◌, ℕ, ◌≤◌, Bool, true, false, cond, ltb, Option, Some, None, List, [], ◌∷◌, ◌++◌, length, get_or, Contains, bytes_eq, refl, ap, ◌∙◌, arith}
use Rattle.std.specs.List.{slice_get, position, position_or_len}
use Rattle.std.proofs.lemmas.Bool.Decides.{nat_tests}
use Rattle.std.proofs.lemmas.List.Quantifiers.{position-Some}
use Rattle.std.proofs.lemmas.List.Sums.{fails_before_first}
use Rattle.std.proofs.lemmas.Option.{slice_get-get_or}
use Rattle.std.proofs.lemmas.Slice.Eq.{bytes_eq-Decides}
use Rattle.epic_num.specs.declared.hop.Body.{Body}
use Rattle.epic_num.proofs.SameLaws.{same_body-Decides}
use Rattle.epic_app.specs.declared.hop_file.HopCommand.{HopCommand}
use Rattle.epic_app.specs.declared.hop_file.HopCommand.TheVariants.{Issue, Check}
use Rattle.epic_app.specs.declared.hop_answer.HopAnswer.TheVariants.{Refused}
use Rattle.epic_fields.specs.Formulas.{authenticator, field0}
use Rattle.epic_app.specs.HopReport.{is_issue_of, accepted, answer_of, answers_after, Holds, AllHold}

past_none : (k n : ℕ) → cond (ltb k n) (Some k) None ≡ None → n ≤ k
past_none k n h = grind (arith, nat_tests)

is_issue : (body : Body) (command : HopCommand) → is_issue_of body command ≡ true → command ≡ Issue body
is_issue body (Issue issued) h = ap Issue ((same_body-Decides issued body).0 h)
is_issue body (Check checked field) h = cc

issued_at : (body : Body) (earlier : List HopCommand) (place : ℕ) →
    position (is_issue_of body) earlier ≡ Some place → slice_get earlier place ≡ Some (Issue body)
issued_at body earlier place found =
    let f = position-Some (is_issue_of body) earlier place (Issue body) found in
    slice_get-get_or earlier place (Issue body) f.0 ∙ ap Some (is_issue body (get_or earlier place (Issue body)) f.1)

never_issued : (body : Body) (earlier : List HopCommand) → position (is_issue_of body) earlier ≡ None →
    ¬ Contains earlier (Issue body)
never_issued body earlier none (k, within, is) =
    let past : length earlier ≤ position_or_len (is_issue_of body) earlier = past_none _ _ none in
    let fails = fails_before_first (is_issue_of body) earlier k (Issue body) (omega arith) in
    let passes : is_issue_of body (get_or earlier k (Issue body)) ≡ true = rw is ((same_body-Decides body body).1 refl) in
    cc (fails, passes)

accepted_holds : (key : List ℕ) (earlier : List HopCommand) (body : Body) (field : List ℕ) (found : Option ℕ) →
    field ≡ field0 (authenticator key body) → position (is_issue_of body) earlier ≡ found → Holds key earlier (Check body field) (accepted body field found)
accepted_holds key earlier body field (Some place) right found = (right, (place, refl, issued_at body earlier place found))
accepted_holds key earlier body field None right found = (refl, refl, right, never_issued body earlier found)

checked_holds : (key : List ℕ) (earlier : List HopCommand) (body : Body) (field : List ℕ) (right : Bool) →
    bytes_eq field (field0 (authenticator key body)) ≡ right →
    Holds key earlier (Check body field) (cond right (accepted body field (position (is_issue_of body) earlier)) Refused)
checked_holds key earlier body field true h = accepted_holds key earlier body field _ ((bytes_eq-Decides field (field0 (authenticator key body))).0 h) refl
checked_holds key earlier body field false h = λ right. cc (h, (bytes_eq-Decides field (field0 (authenticator key body))).1 right)

holds : (key : List ℕ) (earlier : List HopCommand) (command : HopCommand) →
    Holds key earlier command (answer_of key earlier command)
holds key earlier (Issue body) = (refl, refl)
holds key earlier (Check body field) = checked_holds key earlier body field (bytes_eq field (field0 (authenticator key body))) refl

pub answers_hold : (key : List ℕ) (earlier commands : List HopCommand) →
    AllHold key earlier commands (answers_after key earlier commands)
answers_hold key earlier [] = tt
answers_hold key earlier (command ∷ more) = (holds key earlier command, answers_hold key (earlier ++ command ∷ []) more)
