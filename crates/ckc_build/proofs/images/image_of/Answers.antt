use Rattle.ckc_source.specs.Code.{program_of}
use Rattle.ckc_build.proofs.Programs.{built_of, short_of}
use Rattle.ckc_build.proofs.images.image_of.Goals as goal

pub compile-requires-clause-form : goal.compile-requires-clause-form
compile-requires-clause-form c =
    c.programs_have_the_form.ensures c.args.text.now (program_of c.args.p.now) c.requires.means.answers c.places_fit.ensures

pub compile-requires-clause-small : goal.compile-requires-clause-small
compile-requires-clause-small c = c.programs_fit.ensures c.args.text.now (program_of c.args.p.now) c.requires.means.answers

pub returns-clause-answers : goal.returns-clause-answers
returns-clause-answers c =
    built_of c.args.text.now (program_of c.args.p.now) c.in-Ok-write.image.items
    (c.unchecked_code_is_to_blame.ensures.blamed c.args.text.now (program_of c.args.p.now) c.requires.means.answers)
    (c.unchecked_code_is_to_blame.ensures.never_stuck c.args.text.now (program_of c.args.p.now) c.requires.means.answers)
    (c.checked_stores_lie_in_blocks.ensures c.args.text.now (program_of c.args.p.now) c.requires.means.answers) c.requires.means (
      c.in-Ok.parts,
      c.in-Ok.ensures.follows,
      c.in-Ok.ensures.size,
      c.in-Ok.ensures.confined,
      c.in-Ok.ensures.faultless,
      c.in-Ok-write.ensures,
    )

pub returns-clause-short : goal.returns-clause-short
returns-clause-short c =
    short_of c.args.text.now (program_of c.args.p.now) c.in-Ok-write.image.items c.requires.means (
      c.in-Ok.parts,
      c.in-Ok.ensures.follows,
      c.in-Ok.ensures.size,
      c.in-Ok.ensures.confined,
      c.in-Ok.ensures.faultless,
      c.in-Ok-write.ensures,
    )
