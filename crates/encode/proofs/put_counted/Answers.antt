-- `encode::put_counted` meets its contract. Assumes nothing.
use Rattle.writer.specs.Laws.Put.{put_one, put-after}
use Rattle.encode.proofs.put_counted.Goals as goal

pub returns : goal.returns
returns c = let p = c.put_all-end in put-after p.ensures (put_one c.args.count p.result _)
