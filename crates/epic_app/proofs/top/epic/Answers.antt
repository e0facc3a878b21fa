use Rattle.std.proofs.Common.{map}
use Rattle.std.specs.String.{string_bytes}
use Rattle.epic_words.specs.Request.{request_of}
use Rattle.epic_app.proofs.EndLaws.{ends_under}
use Rattle.epic_app.proofs.FewPackets.{few_requests}
use Rattle.epic_app.proofs.ReportHolds.{holds_under}
use Rattle.epic_app.proofs.top.epic.Goals as goal

pub returns-clause-ends : goal.returns-clause-ends
returns-clause-ends g c = rw c.status.ensures (ends_under (map string_bytes c.args.words.now) (request_of (map string_bytes c.args.words.now)) _ _ _ _ _ c.perform-end.ensures c.tell.ensures)

pub returns-clause-report_holds : goal.returns-clause-report_holds
returns-clause-report_holds g c =
    rw c.status.ensures (holds_under c.runs_hold.ensures c.commands_are_spelled.ensures c.script_names_fit.ensures c.runs_are_judged_true.ensures c.judgments_are_decided.ensures (map string_bytes c.args.words.now) (request_of (map string_bytes c.args.words.now)) _ _ _ _ _ (few_requests (map string_bytes c.args.words.now)) (ends_under (map string_bytes c.args.words.now) (request_of (map string_bytes c.args.words.now)) _ _ _ _ _ c.perform-end.ensures c.tell.ensures))
