use Rattle.std.proofs.Common.{◌≡◌, arith}
use Rattle.std.proofs.lemmas.Bool.Decides.{nat_tests}
use Rattle.epic_app.proofs.PolicedLaws.{latest_is, offered_more, when_ok}
use Rattle.epic_app.proofs.noting.offer.Goals as goal

pub returns-in_ok-policed-in-Some-clause-police : goal.returns-in_ok-policed-in-Some-clause-police
returns-in_ok-policed-in-Some-clause-police c = λ t set offers policed.
    let policed_old = rw c.in-Some.is at policed in
    let early = latest_is t set c.in-Some.policers offers c.args.now policed_old in
    let same : c.max-now.result ≡ c.args.now = grind (arith, nat_tests, early, c.max-now.ensures, c.latest.ensures) in
    when_ok c.police_line.result
    (offered_more t set c.in-Some.policers c.offer.new.self offers _ c.args.now policed_old
    (λ policy os stand. rw same at (c.in_ok-policed-in-Some.ensures.stand policy os stand))
    (omega (arith, same, c.in_ok-policed-in-Some.ensures.latest)))
