use Rattle.std.proofs.Common.{◌≡◌, ◌-◌, ◌<◌, ℕ, List, [], Option, true, false, length, get_or, take, refl, sym, subst, ◌∙◌, arith}
use Rattle.std.proofs.lemmas.Bool.{MatchBool-at_true, MatchBool-at_false}
use Rattle.std.proofs.lemmas.Option.{slice_get_read, slice_get_within}
use Rattle.ckc_tac.specs.declared.code.TacOp.{TacOp}
use Rattle.ckc_flow.specs.Live.{target_of}
use Rattle.ckc_passes.specs.Rewrites.{all_done}
use Rattle.ckc_passes_known.specs.declared.facts.Fact.{Fact}
use Rattle.ckc_passes_known.specs.declared.marks.Way.{Way}
use Rattle.ckc_passes_known.specs.declared.marks.Way.TheVariants.{Told, Ended, Open}
use Rattle.ckc_passes_known.specs.Known.{changes, at_entry}
use Rattle.ckc_passes_known.specs.code.Marks.{Goes, IsAsking, IsGone, fact_in, leads, tells}
use Rattle.ckc_passes_known.proofs.Added.{get_or_within}
use Rattle.ckc_passes_known.proofs.Same.{tells_told, tells_not}
use Rattle.ckc_passes_known.proofs.Search.{lost_by, smaller, asking_first, asking_stays, asking_put, asking_ended, closed_told, closed_apart, search_begins, there_of, lost_at, search_answered, search_ended}
use Rattle.ckc_passes_known.proofs.Ways.{unwritten, go_told, go_ended, go_further, go_open, known_by}
use Rattle.ckc_passes_known.proofs.marks.+search.Goals.{way_back-then-is_changed+in_ok-spared+else-not-spared, way_back-else-is_changed}
use Rattle.ckc_passes_known.proofs.marks.+search.Goals as goal

-- ---- one block

pub ask-returns-then-b-eq0 : goal.ask-returns-then-b-eq0
ask-returns-then-b-eq0 t c =
    let zero : c.args.b ≡ 0 = omega arith in
    subst (λ q. IsGone c.args.blocks.now c.args.question q []) (sym zero) at_entry

pub ask-returns-in-Ended : goal.ask-returns-in-Ended
ask-returns-in-Ended t c =
    let edge = c.index-edge.result.now in
    let blocks = c.args.blocks.now in
    let block = c.index-blocks-edge.result in
    let there = slice_get_read blocks (length blocks) edge.from block refl c.if-edge-blocks.true c.index-blocks-edge.is in
    lost_by blocks c.args.question c.args.b block edge.from there
    (subst (λ (f : Fact). leads f block.end c.args.b ≡ true) c.fact_in.ensures (sym c.leads.ensures ∙ c.if-leads.true))
    (subst (λ (ops : List TacOp). Goes blocks c.args.question edge.from (all_done [] ops) Ended) c.as_slice.ensures
    (subst (λ (w : Way). Goes blocks c.args.question edge.from (all_done [] c.as_slice.result.now) w) c.in-Ended.is c.in_ok-way.ensures))

pub ask-edges-init : goal.ask-edges-init
ask-edges-init t c =
    let edges = c.args.edges.now in
    let first = edges.first.items in
    let b = c.args.b in
    let e = c.index-e.result.now in
    let marks = c.args.marks.now in
    let order = c.args.order.now.items in
    let same : e ≡ get_or first b 0 = c.index-e.ensures ∙ get_or_within first b e 0 (omega (arith, c.requires.there, c.requires.edges.long)) in
    subst (λ n. IsAsking c.args.blocks.now edges.all.items c.args.question b (get_or first b 0) n marks order marks order) (sym same)
    (asking_first c.args.blocks.now c.args.question edges.all.items first b marks order c.requires.edges c.requires.long)

pub ask-edges-smaller-in-Told : goal.ask-edges-smaller-in-Told
ask-edges-smaller-in-Told t c =
    let edges = c.args.edges.now in
    let all = edges.all.items in
    let e = c.edges.e in
    let edge = c.index-edge.result.now in
    let at = slice_get_read all (length all) (e - 1) edge refl (let h = c.edges.invariant.within in omega (arith, h)) c.index-edge.ensures in
    smaller c.args.blocks.now c.args.question all edges.first.items c.requires.edges.linked c.args.b (get_or edges.first.items c.args.b 0) e edge (omega arith) at

pub ask-edges-smaller-in_ok-put-in-Open : goal.ask-edges-smaller-in_ok-put-in-Open
ask-edges-smaller-in_ok-put-in-Open t c =
    let edges = c.args.edges.now in
    let all = edges.all.items in
    let e = c.edges.e in
    let edge = c.index-edge.result.now in
    let at = slice_get_read all (length all) (e - 1) edge refl (let h = c.edges.invariant.within in omega (arith, h)) c.index-edge.ensures in
    smaller c.args.blocks.now c.args.question all edges.first.items c.requires.edges.linked c.args.b (get_or edges.first.items c.args.b 0) e edge (omega arith) at

pub ask-edges-smaller-else-leads : goal.ask-edges-smaller-else-leads
ask-edges-smaller-else-leads t c =
    let edges = c.args.edges.now in
    let all = edges.all.items in
    let e = c.edges.e in
    let edge = c.index-edge.result.now in
    let at = slice_get_read all (length all) (e - 1) edge refl (let h = c.edges.invariant.within in omega (arith, h)) c.index-edge.ensures in
    smaller c.args.blocks.now c.args.question all edges.first.items c.requires.edges.linked c.args.b (get_or edges.first.items c.args.b 0) e edge (omega arith) at

pub ask-edges-smaller : goal.ask-edges-smaller
ask-edges-smaller t c =
    let edges = c.args.edges.now in
    let all = edges.all.items in
    let e = c.edges.e in
    let edge = c.index-edge.result.now in
    let at = slice_get_read all (length all) (e - 1) edge refl (let h = c.edges.invariant.within in omega (arith, h)) c.index-edge.ensures in
    smaller c.args.blocks.now c.args.question all edges.first.items c.requires.edges.linked c.args.b (get_or edges.first.items c.args.b 0) e edge (omega arith) at

pub ask-edges-preserved-in-Told : goal.ask-edges-preserved-in-Told
ask-edges-preserved-in-Told t c =
    let edges = c.args.edges.now in
    let all = edges.all.items in
    let e = c.edges.e in
    let edge = c.index-edge.result.now in
    let at = slice_get_read all (length all) (e - 1) edge refl (let h = c.edges.invariant.within in omega (arith, h)) c.index-edge.ensures in
    let blocks = c.args.blocks.now in
    let block = c.index-blocks-edge.result in
    let there = slice_get_read blocks (length blocks) edge.from block refl c.if-edge-blocks.true c.index-blocks-edge.is in
    asking_stays c.args.blocks.now c.args.question all edges.first.items c.requires.edges.linked c.args.b (get_or edges.first.items c.args.b 0) e edge (omega arith) at
    c.args.marks.now c.args.order.now.items c.edges.marks c.edges.order.items c.edges.invariant
    (λ other again untold_there. closed_told blocks c.args.question block edge.from there c.edges.marks other again
    (subst (λ (ops : List TacOp). Goes blocks c.args.question edge.from (all_done [] ops) Told) c.as_slice.ensures
    (subst (λ (w : Way). Goes blocks c.args.question edge.from (all_done [] c.as_slice.result.now) w) c.in-Told.is c.in_ok-way.ensures)))

pub ask-edges-preserved-in_ok-put-in-Open : goal.ask-edges-preserved-in_ok-put-in-Open
ask-edges-preserved-in_ok-put-in-Open t c =
    let edges = c.args.edges.now in
    let all = edges.all.items in
    let e = c.edges.e in
    let edge = c.index-edge.result.now in
    let at = slice_get_read all (length all) (e - 1) edge refl (let h = c.edges.invariant.within in omega (arith, h)) c.index-edge.ensures in
    let blocks = c.args.blocks.now in
    let block = c.index-blocks-edge.result in
    let there = slice_get_read blocks (length blocks) edge.from block refl c.if-edge-blocks.true c.index-blocks-edge.is in
    asking_put c.args.blocks.now c.args.question all edges.first.items c.requires.edges.linked c.args.b (get_or edges.first.items c.args.b 0) e edge (omega arith) at
    c.args.marks.now c.args.order.now.items c.edges.marks c.edges.order.items c.edges.invariant
    c.put.new.marks c.put.new.order.items block there
    (subst (λ (f : Fact). leads f block.end c.args.b ≡ true) c.fact_in.ensures (sym c.leads.ensures ∙ c.if-leads.true))
    (subst (λ (ops : List TacOp). Goes blocks c.args.question edge.from (all_done [] ops) Open) c.as_slice.ensures
    (subst (λ (w : Way). Goes blocks c.args.question edge.from (all_done [] c.as_slice.result.now) w) c.in-Open.is c.in_ok-way.ensures))
    c.in_ok-put-in-Open.ensures

pub ask-edges-preserved-else-leads : goal.ask-edges-preserved-else-leads
ask-edges-preserved-else-leads t c =
    let edges = c.args.edges.now in
    let all = edges.all.items in
    let e = c.edges.e in
    let edge = c.index-edge.result.now in
    let at = slice_get_read all (length all) (e - 1) edge refl (let h = c.edges.invariant.within in omega (arith, h)) c.index-edge.ensures in
    let blocks = c.args.blocks.now in
    let block = c.index-blocks-edge.result in
    let there = slice_get_read blocks (length blocks) edge.from block refl c.if-edge-blocks.true c.index-blocks-edge.is in
    asking_stays c.args.blocks.now c.args.question all edges.first.items c.requires.edges.linked c.args.b (get_or edges.first.items c.args.b 0) e edge (omega arith) at
    c.args.marks.now c.args.order.now.items c.edges.marks c.edges.order.items c.edges.invariant
    (λ other again untold_there. closed_apart blocks c.args.question block edge.from there c.edges.marks other again c.args.b untold_there
    (subst (λ (f : Fact). leads f block.end c.args.b ≡ false) c.fact_in.ensures (sym c.leads.ensures ∙ c.if-leads.false)))

pub ask-edges-preserved : goal.ask-edges-preserved
ask-edges-preserved t c =
    let edges = c.args.edges.now in
    let all = edges.all.items in
    let e = c.edges.e in
    let edge = c.index-edge.result.now in
    let at = slice_get_read all (length all) (e - 1) edge refl (let h = c.edges.invariant.within in omega (arith, h)) c.index-edge.ensures in
    let blocks = c.args.blocks.now in
    asking_stays c.args.blocks.now c.args.question all edges.first.items c.requires.edges.linked c.args.b (get_or edges.first.items c.args.b 0) e edge (omega arith) at
    c.args.marks.now c.args.order.now.items c.edges.marks c.edges.order.items c.edges.invariant
    (λ other again untold_there. absurd (let w = slice_get_within blocks edge.from other again in omega (arith, w, c.if-edge-blocks.false)))

pub ask-returns : goal.ask-returns
ask-returns t c =
    let edges = c.args.edges.now in
    asking_ended c.args.blocks.now c.args.question edges.all.items edges.first.items c.args.b c.edges.e c.args.marks.now c.args.order.now.items
    c.edges.marks c.edges.order.items c.requires.edges c.requires.there (λ z. omega (arith, z)) (omega arith) c.edges.invariant

-- ---- all blocks

pub search-loop-i-init : goal.search-loop-i-init
search-loop-i-init t c =
    search_begins c.args.blocks.now c.args.question c.args.b c.requires.there c.args.marks.now c.put.new.marks c.new-order.result.items c.put.new.order.items
    c.requires.none c.new-order.ensures.items c.in_ok-put.ensures

pub search-returns-then-i-len : goal.search-returns-then-i-len
search-returns-then-i-len t c =
    search_ended c.args.blocks.now c.args.question c.args.b c.loop-i.i c.loop-i.marks c.loop-i.order.items c.loop-i.invariant (omega (arith, c.len.ensures))

pub search-ask-requires : goal.search-ask-requires
search-ask-requires t c =
    let order = c.loop-i.order.items in
    let i = c.loop-i.i in
    let h : i < length order = omega (arith, c.len.ensures) in
    let within = there_of c.args.blocks.now c.args.question c.args.b i c.index.result.now c.loop-i.marks order c.loop-i.marks order c.loop-i.invariant h
    (slice_get_read order (length order) i c.index.result.now refl h c.index.ensures) in
    (omega arith, (within, (c.requires.edges, c.loop-i.invariant.long)))

pub search-returns-then-lost : goal.search-returns-then-lost
search-returns-then-lost t c =
    let order = c.loop-i.order.items in
    let i = c.loop-i.i in
    let h : i < length order = omega (arith, c.len.ensures) in
    lost_at c.args.blocks.now c.args.question c.args.b i c.index.result.now c.loop-i.marks order c.loop-i.marks order c.loop-i.invariant h
    (slice_get_read order (length order) i c.index.result.now refl h c.index.ensures) (MatchBool-at_true _ _ c.if-lost.true c.in_ok-lost.ensures)

pub search-loop-i-preserved : goal.search-loop-i-preserved
search-loop-i-preserved t c =
    let blocks = c.args.blocks.now in
    let order = c.loop-i.order.items in
    let i = c.loop-i.i in
    let v = c.index.result.now in
    let h : i < length order = omega (arith, c.len.ensures) in
    let at = slice_get_read order (length order) i v refl h c.index.ensures in
    let asked = MatchBool-at_false _ _ c.if-lost.false c.in_ok-lost.ensures in
    let marks = c.ask.new.marks in
    let last = c.ask.new.order.items in
    search_answered blocks c.args.question c.args.b i v c.loop-i.marks order marks last c.loop-i.invariant h at (asked.stays i v at) asked.answered
    (asked.goes c.args.b i (omega (arith, h)) (lost_at blocks c.args.question c.args.b i v c.loop-i.marks order marks last c.loop-i.invariant h at) c.loop-i.invariant)

pub search-returns : goal.search-returns
search-returns t c =
    let order = c.loop-i.order.items in
    search_ended c.args.blocks.now c.args.question c.args.b c.loop-i.i c.loop-i.marks order c.loop-i.invariant (let n = c.loop-i.invariant.counts in omega (arith, n))

-- ---- one place

pub is_known-returns-in_ok-lost-in-Open : goal.is_known-returns-in_ok-lost-in-Open
is_known-returns-in_ok-lost-in-Open t c =
    let blocks = c.args.blocks.now in
    let done = all_done [] c.args.before.now in
    known_by blocks c.args.question c.args.b done c.in_ok-lost-in-Open.lost c.in_ok-lost-in-Open.ensures
    (subst (λ (w : Way). Goes blocks c.args.question c.args.b done w) c.in-Open.is c.in_ok-way.ensures)

-- ---- the operations of one block

pub way_back-returns-then-is_told : goal.way_back-returns-then-is_told
way_back-returns-then-is_told t c =
    let blocks = c.args.blocks.now in
    let question = c.args.question in
    let before = c.args.before.now in
    let i = c.back.i in
    let op = c.index-before-i.result in
    let within : i - 1 < length before = (let h = c.back.invariant.within in omega (arith, h)) in
    go_told blocks question c.args.b before i op (omega arith) within c.index-before-i.is c.back.invariant.all
    (tells_told op (fact_in question) (subst (λ (f : Fact). tells op f ≡ true) c.fact_in-fact.ensures (sym c.is_told.ensures ∙ c.if-is_told.true)))

pub way_back-returns-then-not-spared : goal.way_back-returns-then-not-spared
way_back-returns-then-not-spared t c =
    let blocks = c.args.blocks.now in
    let question = c.args.question in
    let before = c.args.before.now in
    let i = c.back.i in
    let op = c.index-before-i.result in
    let within : i - 1 < length before = (let h = c.back.invariant.within in omega (arith, h)) in
    go_ended blocks question c.args.b before i op (omega arith) within c.index-before-i.is c.back.invariant.all
    (tells_not op (fact_in question) (subst (λ (f : Fact). tells op f ≡ false) c.fact_in-fact.ensures (sym c.is_told.ensures ∙ c.if-is_told.false)))
    (MatchBool-at_false _ _ c.if-not-spared.true c.in_ok-spared.ensures)

pub way_back-back-preserved : goal.way_back-back-preserved
way_back-back-preserved t c =
    let blocks = c.args.blocks.now in
    let question = c.args.question in
    let before = c.args.before.now in
    let i = c.back.i in
    let op = c.index-before-i.result in
    let within : i - 1 < length before = (let h = c.back.invariant.within in omega (arith, h)) in
    let untold = tells_not op (fact_in question) (subst (λ (f : Fact). tells op f ≡ false) c.fact_in-fact.ensures (sym c.is_told.ensures ∙ c.if-is_told.false)) in
    record {
      within = omega arith;
      all = elim c.if-is_changed.branch [
        | way_back-then-is_changed+in_ok-spared+else-not-spared w ↦
            go_further blocks question c.args.b before i op (omega arith) within c.index-before-i.is c.back.invariant.all untold
            (MatchBool-at_true _ _ w.if-not-spared.false w.in_ok-spared.ensures)
        | way_back-else-is_changed w ↦
            go_further blocks question c.args.b before i op (omega arith) within c.index-before-i.is c.back.invariant.all untold
            (unwritten blocks question c.args.b (all_done [] (take (i - 1) before)) op (subst (λ (f : Fact). changes (target_of op) f ≡ false) c.fact_in-fact.ensures (subst (λ (o : Option ℕ). changes o c.fact_in-fact.result ≡ false) c.target.ensures (sym c.is_changed.ensures ∙ w.if-is_changed.false))))
      ];
    }

pub way_back-returns : goal.way_back-returns
way_back-returns t c = go_open c.args.blocks.now c.args.question c.args.b c.args.before.now c.back.i c.back-test.false c.back.invariant.all
