-- What a reader reads.
use Rattle.ckc_source.specs.Eval.{Store}
use Rattle.ckc_interp_blocks.specs.Views.{blocks_of, shapes_of}
use Rattle.ckc_interp_eval.specs.declared.reader.Reader.{Reader}

abbrev pub store_of : Reader → Store
store_of r = record { shapes = shapes_of r.blocks.now; blocks = blocks_of r.blocks.now; locals = r.locals.now }
