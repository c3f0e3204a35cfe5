-- `trace_input::whole_words` meets its contract. Assumes nothing.
use Rattle.std.proofs.lemmas.List.{length-drop, take_rest}
use Rattle.trace_input.specs.Laws.Input.{tail_words}
use Rattle.trace_input.proofs.whole_words.Goals as goal

pub returns-clause-value : goal.returns-clause-value
returns-clause-value c =
    rw (c.as_chunks.ensures.front, c.image_of.ensures, take_rest, length-drop, tail_words c.args.input.now)

pub returns-clause-len : goal.returns-clause-len
returns-clause-len c =
    rw (c.as_chunks.ensures.front_len, c.image_of.ensures, take_rest, length-drop, tail_words c.args.input.now)
