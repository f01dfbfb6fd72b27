use Rattle.std.proofs.Common.{false, length, refl, sym, subst}
use Rattle.std.specs.Prelude.{IfOk}
use Rattle.ckc_tac.specs.declared.code.TacOp.{TacOp}
use Rattle.ckc_tac.specs.declared.code.TacOp.TheVariants.{Const, Copy, Bin, High, Load, Store, Get, Put, Alloc}
use Rattle.ckc_passes_redundant.specs.declared.operations.Operation.TheVariants.{Whole, Half}
use Rattle.ckc_passes_redundant.specs.declared.table.Value.TheVariants.{Word, GivenAt}
use Rattle.ckc_passes_redundant.specs.code.Tables.{word, held_in, IsTaken}
use Rattle.ckc_passes_redundant.proofs.Taking.{taken_written, taken_combined, taken_idle, taken_call, taken_check, given_here}
use Rattle.ckc_passes_redundant.proofs.table.Table.take.Goals as goal

pub returns-in-Const : goal.returns-in-Const
returns-in-Const c =
    let a = c.in-Const in
    subst (λ (o : TacOp). IfOk c.give.result (IsTaken o c.args.place c.args.self.now c.give.new.self)) (sym a.is)
    (taken_written (Const a.t a.n) (record { looks = λ done kind v l. l; repeats = λ done l. l }) c.args.place c.args.self.now c.give.new.self a.t (Word a.n) c.give.result refl (λ done long k. word) c.give.ensures.never c.give.ensures.writes)

pub returns-in-Copy : goal.returns-in-Copy
returns-in-Copy c =
    let a = c.in-Copy in
    subst (λ (o : TacOp). IfOk c.copy.result (IsTaken o c.args.place c.args.self.now c.copy.new.self)) (sym a.is)
    (taken_written (Copy a.t a.a) (record { looks = λ done kind v l. l; repeats = λ done l. l }) c.args.place c.args.self.now c.copy.new.self a.t (held_in c.args.self.now a.a) c.copy.result refl (λ done long k. k.means a.a) c.copy.ensures.never c.copy.ensures.writes)

pub returns-in-Bin : goal.returns-in-Bin
returns-in-Bin c =
    let a = c.in-Bin in
    subst (λ (o : TacOp). IfOk c.combine.result (IsTaken o c.args.place c.args.self.now c.combine.new.self)) (sym a.is)
    (taken_combined (Bin a.op a.t a.a a.b) (record { looks = λ done kind v l. l; repeats = λ done l. l }) c.args.place c.args.self.now c.combine.new.self (Whole a.op) a.t a.a a.b c.combine.result refl (λ done. refl) c.combine.ensures.never c.combine.ensures.combines)

pub returns-in-High : goal.returns-in-High
returns-in-High c =
    let a = c.in-High in
    subst (λ (o : TacOp). IfOk c.combine-in-High.result (IsTaken o c.args.place c.args.self.now c.combine-in-High.new.self)) (sym a.is)
    (taken_combined (High a.is_signed a.t a.a a.b) (record { looks = λ done kind v l. l; repeats = λ done l. l }) c.args.place c.args.self.now c.combine-in-High.new.self (Half a.is_signed) a.t a.a a.b c.combine-in-High.result refl (λ done. refl) c.combine-in-High.ensures.never c.combine-in-High.ensures.combines)

pub returns-in-Load : goal.returns-in-Load
returns-in-Load c =
    let a = c.in-Load in
    subst (λ (o : TacOp). IfOk c.give-in-Load.result (IsTaken o c.args.place c.args.self.now c.give-in-Load.new.self)) (sym a.is)
    (taken_written (Load a.field-0 a.t a.field-2 a.field-3) (record { looks = λ done kind v l. l; repeats = λ done l. l }) c.args.place c.args.self.now c.give-in-Load.new.self a.t (GivenAt c.args.place) c.give-in-Load.result refl (λ done long k. given_here c.args.self.now.works.keys (length done) c.args.place long) c.give-in-Load.ensures.never c.give-in-Load.ensures.writes)

pub returns-in-Get : goal.returns-in-Get
returns-in-Get c =
    let a = c.in-Get in
    subst (λ (o : TacOp). IfOk c.give-in-Get.result (IsTaken o c.args.place c.args.self.now c.give-in-Get.new.self)) (sym a.is)
    (taken_written (Get a.t) (record { looks = λ done kind v l. l; repeats = λ done l. l }) c.args.place c.args.self.now c.give-in-Get.new.self a.t (GivenAt c.args.place) c.give-in-Get.result refl (λ done long k. given_here c.args.self.now.works.keys (length done) c.args.place long) c.give-in-Get.ensures.never c.give-in-Get.ensures.writes)

pub returns-in-Alloc : goal.returns-in-Alloc
returns-in-Alloc c =
    let a = c.in-Alloc in
    subst (λ (o : TacOp). IfOk c.give-in-Alloc.result (IsTaken o c.args.place c.args.self.now c.give-in-Alloc.new.self)) (sym a.is)
    (taken_written (Alloc a.t a.field-1 a.field-2) (record { looks = λ done kind v l. l; repeats = λ done l. l }) c.args.place c.args.self.now c.give-in-Alloc.new.self a.t (GivenAt c.args.place) c.give-in-Alloc.result refl (λ done long k. given_here c.args.self.now.works.keys (length done) c.args.place long) c.give-in-Alloc.ensures.never c.give-in-Alloc.ensures.writes)

pub returns-in-Store : goal.returns-in-Store
returns-in-Store c =
    let a = c.in-Store in
    subst (λ (o : TacOp). IsTaken o c.args.place c.args.self.now c.args.self.now false) (sym a.is)
    (taken_idle (Store a.field-0 a.field-1 a.field-2 a.field-3) (record { looks = λ done kind v l. l; repeats = λ done l. l }) refl c.args.place c.args.self.now)

pub returns-in-Put : goal.returns-in-Put
returns-in-Put c =
    let a = c.in-Put in
    subst (λ (o : TacOp). IsTaken o c.args.place c.args.self.now c.args.self.now false) (sym a.is)
    (taken_idle (Put a.field-0) (record { looks = λ done kind v l. l; repeats = λ done l. l }) refl c.args.place c.args.self.now)

pub returns-in-Check : goal.returns-in-Check
returns-in-Check c =
    let a = c.in-Check in
    subst (λ (o : TacOp). IfOk c.ask.result (IsTaken o c.args.place c.args.self.now c.ask.new.self)) (sym a.is)
    (taken_check a.check a.field-1 a.c a.a a.b c.args.place c.args.self.now c.ask.new.self c.ask.result c.comparing.result c.comparing.ensures c.ask.ensures)

pub returns-in-Call : goal.returns-in-Call
returns-in-Call c =
    let a = c.in-Call in
    subst (λ (o : TacOp). IfOk c.give_if.result (IsTaken o c.args.place c.args.self.now c.give_if.new.self)) (sym a.is)
    (taken_call a.t a.field-1 a.field-2 a.field-3 c.args.place c.args.self.now c.give_if.new.self c.give_if.result c.give_if.ensures.never c.give_if.ensures.writes)
