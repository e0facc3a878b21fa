use Rattle.std.proofs.Common.{◌≡◌, ◌∙◌, ℕ, List, ap, refl, rules, bytes_eq, codes, option_map}
use Rattle.epic_words.specs.Answers.{policing_in}
use Rattle.epic_words.proofs.Laws.{name_read, value_read}
use Rattle.epic_words.proofs.run.names.Goals as goal

pub returns-clause-value : goal.returns-clause-value
returns-clause-value c =
    let m = c.args.matches.now in
    let topology = name_read m (codes "topology") c.get_str.result _
    c.unwrap_or.result c.get_str.ensures c.unwrap_or.ensures refl in
    let script = name_read m (codes "script") c.get_str-2.result _
    c.unwrap_or-2.result c.get_str-2.ensures c.unwrap_or-2.ensures refl in
    let capture = value_read m (codes "capture") c.get_str-3.result c.get_str-3.ensures in
    let save = value_read m (codes "save") c.get_str-4.result c.get_str-4.ensures in
    let ledger = value_read m (codes "ledger") c.get_str-5.result c.get_str-5.ensures in
    let verdicts = value_read m (codes "verdicts") c.get_str-6.result c.get_str-6.ensures in
    let makers = name_read m (codes "makers") c.get_str-7.result _
    c.unwrap_or-3.result c.get_str-7.ensures c.unwrap_or-3.ensures refl in
    let same : c.eq.result ≡ bytes_eq c.unwrap_or-3.result.now (codes "true") = search rules in
    let flagged = same ∙ ap (λ (value : List ℕ). bytes_eq value (codes "true")) makers in
    λ i. record {
      topology = topology i;
      script = script i;
      capture = capture i;
      save = save i;
      ledger = ledger i;
      verdicts = verdicts i;
      makers = flagged i;
      police = option_map policing_in c.args.police;
    }
