-- `trace_input::word_at` meets its contract. Assumes nothing.
use Rattle.std.proofs.Common.{◌≡◌, ◌∙◌, get_or, rules}
use Rattle.std.proofs.Math.ListN.{replicate}
use Rattle.trace_input.specs.Laws.Input.{word_read}
use Rattle.trace_input.proofs.word_at.Goals as goal

pub returns : goal.returns
returns c =
    let bytes : c.unwrap_or.result ≡ get_or c.whole_words.result.now c.args.k (replicate 8 0) = search rules in
    c.from_le_bytes.ensures ∙ rw (bytes, c.whole_words.ensures.value) (word_read c.args.input.now c.args.k)
