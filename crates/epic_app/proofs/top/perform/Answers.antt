use Rattle.std.proofs.Common.{rules, map, ◌≡◌, Some, subst}
use Rattle.std.specs.String.{string_bytes}
use Rattle.epic_words.specs.Answers.{names_in}
use Rattle.epic_words.specs.Request.{Hop, Run, Gen, Judge, request_of}
use Rattle.epic_app.specs.Acts.{world}
use Rattle.epic_app.proofs.EndLaws.{asked_for, memory_for, refused_for, unshared_for}
use Rattle.epic_app.proofs.FewPackets.{HasFew, few_requests}
use Rattle.epic_app.proofs.top.perform.Goals as goal

pub returns-in-Ok-Hop : goal.returns-in-Ok-Hop
returns-in-Ok-Hop g c =
    let words = c.in-Ok-Hop.words in
    let is : request_of (map string_bytes c.args.words.now) ≡ Some (Hop words.key words.file.now) = rw c.in-Ok-Hop.field-0-is at c.in-Ok-Hop.ensures.asks in
    asked_for (map string_bytes c.args.words.now) _ _ _ _ is c.hop.ensures

pub run-requires : goal.run-requires
run-requires g c =
    let words = c.in-Ok-Run.words in
    let is : request_of (map string_bytes c.args.words.now) ≡ Some (Run (names_in words)) = rw c.in-Ok-Run.field-0-is at c.in-Ok-Run.ensures.asks in
    unshared_for (map string_bytes c.args.words.now) (names_in words) is

pub returns-in-Ok-Run : goal.returns-in-Ok-Run
returns-in-Ok-Run g c =
    let words = c.in-Ok-Run.words in
    let is : request_of (map string_bytes c.args.words.now) ≡ Some (Run (names_in words)) = rw c.in-Ok-Run.field-0-is at c.in-Ok-Run.ensures.asks in
    asked_for (map string_bytes c.args.words.now) _ _ _ _ is c.run.ensures

pub generate-requires : goal.generate-requires
generate-requires g c =
    let words = c.in-Ok-Gen.words in
    let is : request_of (map string_bytes c.args.words.now) ≡ Some (Gen words.seed words.packets) = rw c.in-Ok-Gen.field-0-is at c.in-Ok-Gen.ensures.asks in
    subst HasFew is (few_requests (map string_bytes c.args.words.now))

pub returns-in-Ok-Gen : goal.returns-in-Ok-Gen
returns-in-Ok-Gen g c =
    let words = c.in-Ok-Gen.words in
    let is : request_of (map string_bytes c.args.words.now) ≡ Some (Gen words.seed words.packets) = rw c.in-Ok-Gen.field-0-is at c.in-Ok-Gen.ensures.asks in
    asked_for (map string_bytes c.args.words.now) _ _ _ _ is
    (c.generate.ensures (g.S.Store.contents c.args.store.now) (g.S.Store.reads c.args.store.now) (g.S.Store.writes c.args.store.now))

pub returns-in-Ok-Judge : goal.returns-in-Ok-Judge
returns-in-Ok-Judge g c =
    let words = c.in-Ok-Judge.words in
    let is : request_of (map string_bytes c.args.words.now) ≡ Some (Judge words.topology.now words.ledger.now words.verdicts.now) = rw c.in-Ok-Judge.field-0-is at c.in-Ok-Judge.ensures.asks in
    asked_for (map string_bytes c.args.words.now) _ _ _ _ is c.judge.ensures

pub returns-in-Err-Refused : goal.returns-in-Err-Refused
returns-in-Err-Refused g c = refused_for (map string_bytes c.args.words.now) _ (rw c.in-Err-Refused.field-0-is at c.in-Err-Refused.ensures.asks)

pub returns-in-Err-OutOfMemory : goal.returns-in-Err-OutOfMemory
returns-in-Err-OutOfMemory g c =
    let words = map string_bytes c.args.words.now in
    let before = world (g.S.Store.contents c.args.store.now) (g.S.Store.reads c.args.store.now) (g.S.Store.writes c.args.store.now)
    (g.O.Sink.written c.args.out.now) (g.O.Sink.faults c.args.out.now) in
    memory_for words (request_of words) before (c.in-Err-OutOfMemory.ensures.memory (search rules))
