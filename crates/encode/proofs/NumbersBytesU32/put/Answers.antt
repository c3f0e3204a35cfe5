-- A number is put as its bytes. Assumes nothing.
use Rattle.encode.proofs.NumbersBytesU32.put.Goals as goal

pub put_bytes-requires : goal.put_bytes-requires
put_bytes-requires c = rw c.number_bytes.ensures c.requires

pub returns : goal.returns
returns c = rw c.number_bytes.ensures at c.put_bytes.ensures
