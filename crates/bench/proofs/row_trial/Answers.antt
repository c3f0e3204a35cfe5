-- `bench::row_trial` meets its contract. Assumes nothing.
use Rattle.std.proofs.Common.{◌≡◌, ◌++◌, List, ap₂, drop, length, rules, min}
use Rattle.std.proofs.lemmas.List.{take_min, drop_min}
use Rattle.relay.specs.declared.Station.{Station}
use Rattle.bench.specs.declared.Records.{Records}
use Rattle.bench.specs.Bench.{Told}
use Rattle.bench.specs.ByValue.{BenchedTold, records_benched}
use Rattle.bench.proofs.row_trial.Goals as goal

pub returns : goal.returns
unfolding records_benched
returns c =
    let xs = c.args.records.stations in
    let n = c.args.length in
    let long : length xs ≡ 9 = search rules in
    let lent : c.lent-m.result ≡ min n (length xs) = rw long c.lent-m.ensures in
    let done = rw (lent, take_min) at c.row_bench-answer.ensures in
    let rest : drop c.lent-m.result xs ≡ drop n xs = rw (lent, drop_min) in
    ap₂ {C = BenchedTold Records} (λ (stations : List Station) (answer : Told). record { after = record { stations = stations }; answer = answer })
    (ap₂ {C = List Station} (λ (front rest : List Station). front ++ rest) done.left rest) done.answered
