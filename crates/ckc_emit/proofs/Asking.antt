-- Input, output and checks.
use Rattle.std.proofs.Common.{◌≡◌, ◌≢◌, ℕ, ◌+◌, ◌-◌, ◌*◌, ◌%◌, ◌^◌, ◌<◌, List, [], ◌∷◌, ◌++◌, Some, None, refl, sym, ap, subst, ◌∙◌, arith}
use Rattle.std.specs.Prelude.{flat_map}
use Rattle.std.proofs.lemmas.Grind.{flat_map-append}
use Rattle.ckc_base.specs.Traces.{Got, Put}
use Rattle.ckc_base.specs.Steps.{Goes}
use Rattle.ckc_base.specs.LongEvents.{LongEvent, Plain, data_events}
use Rattle.ckc_base.specs.Actions.{World}
use Rattle.ckc_base.specs.Activations.{Values, with_written}
use Rattle.ckc_rv.specs.declared.instructions.Instr.TheVariants.{Ecall}
use Rattle.ckc_rv.specs.Detailed.{MachineEvent, Outside}
use Rattle.ckc_asm_lines.specs.declared.lines.Line.{Line}
use Rattle.ckc_asm_lines.specs.declared.lines.Line.TheVariants as line
use Rattle.ckc_frame.specs.declared.code.Place.{Place}
use Rattle.ckc_frame.specs.declared.code.Place.TheVariants as place
use Rattle.ckc_frame.specs.Places.{number_of}
use Rattle.ckc_frame.specs.WellFormed.{IsPlace}
use Rattle.ckc_emit.specs.code.Lines.{register_of, settle_lines, ask_lines, get_lines, put_lines}
use Rattle.ckc_emit.specs.Stores.{seen_events}
use Rattle.ckc_emit.proofs.Local.{Local, state_of}
use Rattle.ckc_emit.proofs.Steps.{set, set_same, set_other, with_x, puts_step, ends_input, gets_step}
use Rattle.ckc_emit.proofs.Paths.{Code, Path, straight, followed, loosened, Sets}
use Rattle.ckc_emit.proofs.FrameWords.{constant_sets}
use Rattle.ckc_emit.proofs.Homes.{register_is, HasValue, HasPlaces, IsFramed, Keeps, keeps_then, framed_kept, settle_writes}
use Rattle.ckc_emit.specs.declared.places.PlacedOperand.{PlacedOperand}
use Rattle.ckc_emit.specs.code.Operands.{IsOperand}
use Rattle.ckc_emit.proofs.Operands.{operand_value, operand_has, operand_word, take_sets}
use Rattle.ckc_emit.proofs.Regions.{region}
use Rattle.ckc_emit.proofs.Relation.{AreBytes, HasWorld, AreAllowed, Does, write_does}

-- ---- what keeps the places

-- the frame and all places are kept
pub record IsSoft (l m : Local) : Type 0 where
  pub keeps : Keeps l m
  pub has : (q : Place) (w : ℕ) → IsPlace q → HasValue l q w → HasValue m q w

pub soft_then : (l m n : Local) → IsSoft l m → IsSoft m n → IsSoft l n
soft_then l m n p q = record {
  keeps = keeps_then l m n p.keeps q.keeps;
  has = λ r w h e. q.has r w h (p.has r w h e);
}

-- a register that is neither x0, x2 nor a home
pub record IsFree (r : ℕ) : Type 0 where
  pub nonzero : r ≢ 0
  pub apart : r ≢ 2
  pub homeless : (k : ℕ) → k < 16 → register_of k ≢ r

pub free_below : (r : ℕ) → r ≢ 0 → r ≢ 2 → r < 8 → IsFree r
free_below r a b h = record {
  nonzero = a;
  apart = b;
  homeless = λ k i. (let home = register_is k i in let low = home.low in omega arith);
}

pub ten_free : IsFree 10
ten_free = record {
  nonzero = omega arith;
  apart = omega arith;
  homeless = λ k i. (register_is k i).ten;
}

pub seventeen_free : IsFree 17
seventeen_free = record {
  nonzero = omega arith;
  apart = omega arith;
  homeless = λ k i. (register_is k i).apart;
}

set_has : (l : Local) (r v : ℕ) → IsFree r → (q : Place) (w : ℕ) → IsPlace q → HasValue l q w → HasValue (with_x l (set l.x r v)) q w
set_has l r v f (place.Reg k) w h e = set_other l.x r v (register_of k) (f.homeless k h) ∙ e
set_has l r v f (place.Slot k) w h e = ap (λ b. l.words (b + (k * 4 + 80))) (set_other l.x r v 2 (λ q. f.apart (sym q))) ∙ e

input_has : (l : Local) (input : List ℕ) (q : Place) (w : ℕ) → HasValue l q w → HasValue (record l { input = input }) q w
input_has l input (place.Reg k) w e = e
input_has l input (place.Slot k) w e = e

pub set_is_soft : (l : Local) (r v : ℕ) → IsFree r → IsSoft l (with_x l (set l.x r v))
set_is_soft l r v f = record {
  keeps = record {
    zero = set_other l.x r v 0 (λ e. f.nonzero (sym e));
    frame = set_other l.x r v 2 (λ e. f.apart (sym e));
    above = λ a o. refl;
  };
  has = λ q w h e. set_has l r v f q w h e;
}

module _ (c : Code) where
  sets_has : (a b : ℕ) (xs ys : List Line) (l : Local) (rd v : ℕ) → IsFree rd → (s : Sets c a b xs ys l rd v) → (q : Place) (w : ℕ) → IsPlace q → HasValue l q w → HasValue s.next q w
  sets_has a b xs ys l rd v f s (place.Reg k) w h e =
      let i = register_is k h in
      let low = i.low in
      s.other (register_of k) (f.homeless k h) (omega arith) ∙ e
  sets_has a b xs ys l rd v f s (place.Slot k) w h e =
      ap (λ (g : ℕ → ℕ). g (s.next.x 2 + (k * 4 + 80))) s.words ∙ ap (λ b. l.words (b + (k * 4 + 80))) (s.other 2 (λ q. f.apart (sym q)) (omega arith)) ∙ e

  pub sets_soft : (a b : ℕ) (xs ys : List Line) (l : Local) (rd v : ℕ) → IsFree rd → (s : Sets c a b xs ys l rd v) → IsSoft l s.next
  sets_soft a b xs ys l rd v f s = record {
    keeps = record {
      zero = s.other 0 (λ e. f.nonzero (sym e)) (omega arith);
      frame = s.other 2 (λ e. f.apart (sym e)) (omega arith);
      above = λ q o. ap (λ (g : ℕ → ℕ). g q) s.words;
    };
    has = sets_has a b xs ys l rd v f s;
  }

  allowed_join : (frame : ℕ) (es fs : List MachineEvent) → AreAllowed frame es → AreAllowed frame fs → AreAllowed frame (es ++ fs)
  allowed_join frame [] fs h k = k
  allowed_join frame (e ∷ es) fs h k = (h.0, allowed_join frame es fs h.1 k)

  -- lines in front of those of an operation
  pub before_does : (a b most : ℕ) (xs ys zs : List Line) (l m : Local) (es : List MachineEvent) (front upper : List LongEvent) (places : Values) (world : World)
      → Path c a b xs ys es l m → flat_map seen_events es ≡ flat_map data_events front → AreAllowed (l.x 2) es → Keeps l m
      → Does c most ys zs m upper places world → Does c (b + most) xs zs l (front ++ upper) places world
  before_does a b most xs ys zs l m es front upper places world p seen allowed keeps d = record {
    next = d.next;
    lower = es ++ d.lower;
    path = loosened c (a + 1) (b + most) 1 (b + most) xs zs (es ++ d.lower) l d.next (omega arith) (omega arith) (followed c a b 1 most xs ys zs es d.lower l m d.next p d.path);
    seen = flat_map-append seen_events es d.lower ∙ ap (λ x. x ++ flat_map seen_events d.lower) seen ∙ ap (λ x. flat_map data_events front ++ x) d.seen
        ∙ sym (flat_map-append data_events front upper);
    allowed = allowed_join (l.x 2) es d.lower allowed (subst (λ frame. AreAllowed frame d.lower) keeps.frame d.allowed);
    keeps = keeps_then l m d.next keeps d.keeps;
    has = d.has;
    world_is = d.world_is;
  }

  pub places_soft : (l m : Local) (places : Values) → IsSoft l m → HasPlaces l places → HasPlaces m places
  places_soft l m places s p = record {
    has = λ q w h e. s.has q w h (p.has q w h e);
    word = p.word;
  }

  -- ---- input

  module _ (l : Local) (places : Values) (world : World) (framed : IsFramed l) (has : HasPlaces l places) (whole : HasWorld l world) where
    asked : (call : ℕ) (rest : List Line) → call < 2 ^ 32 → Sets c 1 2 (ask_lines call rest) (line.Plain Ecall ∷ rest) l 17 call
    asked call rest h = constant_sets c 17 call (line.Plain Ecall ∷ rest) l (omega arith) (omega arith) h framed.zero

    -- the input ends: the target gets the word of -1
    pub end_does : (t : Place) (rest : List Line) → IsPlace t → world.input ≡ [] → Does c 6 (get_lines t rest) rest l (Plain (Got None) ∷ []) (with_written places (number_of t) (2 ^ 32 - 1)) world
    end_does t rest ht none =
        let v = 2 ^ 32 - 1 in
        let s = asked 2 (settle_lines t 10 rest) (omega arith) in
        let m : Local = with_x s.next (set s.next.x 10 v) in
        let soft = soft_then l s.next m (sets_soft 1 2 (get_lines t rest) (line.Plain Ecall ∷ settle_lines t 10 rest) l 17 2 seventeen_free s) (set_is_soft s.next 10 v (ten_free)) in
        let call = straight c Ecall (settle_lines t 10 rest) (Outside (Got None) ∷ []) s.next m (λ pc at. ends_input c.parts s.next pc at s.value (s.input ∙ sym whole.input ∙ none)) in
        let world_then : HasWorld m world = record {
          memory = whole.memory ∙ ap region (sym s.bytes);
          input = whole.input ∙ sym s.input;
          small = λ q. subst (λ (b : ℕ → ℕ). b q < 256) (sym s.bytes) (whole.small q);
          given = subst AreBytes (sym s.input) whole.given;
        } in
        let after = framed_kept l m framed soft.keeps in
        before_does 2 3 3 (get_lines t rest) (settle_lines t 10 rest) rest l m (Outside (Got None) ∷ []) (Plain (Got None) ∷ []) [] (with_written places (number_of t) v) world
        (followed c 1 2 1 1 (get_lines t rest) (line.Plain Ecall ∷ settle_lines t 10 rest) (settle_lines t 10 rest) [] (Outside (Got None) ∷ []) l s.next m s.path call)
        refl (tt, tt) soft.keeps
        (write_does c 3 (settle_lines t 10 rest) rest m t v places world after ht (omega arith) (places_soft l m places soft has) world_then
        (settle_writes c t 10 v rest m after ht (omega arith) (omega arith) (set_same s.next.x 10 v (omega arith)) (omega arith)))

    -- the target gets the next byte
    pub get_does : (t : Place) (byte : ℕ) (more : List ℕ) (rest : List Line) → IsPlace t → world.input ≡ byte ∷ more
        → Does c 6 (get_lines t rest) rest l (Plain (Got (Some byte)) ∷ []) (with_written places (number_of t) byte) (record world { input = more })
    get_does t byte more rest ht next_is =
        let s = asked 2 (settle_lines t 10 rest) (omega arith) in
        let m : Local = record s.next { x = set s.next.x 10 byte; input = more } in
        let soft0 = set_is_soft s.next 10 byte (ten_free) in
        let soft1 : IsSoft s.next m = record { keeps = record { zero = soft0.keeps.zero; frame = soft0.keeps.frame; above = soft0.keeps.above }; has = λ q w h e. input_has (with_x s.next (set s.next.x 10 byte)) more q w (soft0.has q w h e) } in
        let soft = soft_then l s.next m (sets_soft 1 2 (get_lines t rest) (line.Plain Ecall ∷ settle_lines t 10 rest) l 17 2 seventeen_free s) soft1 in
        let event = Got (Some byte) in
        let call = straight c Ecall (settle_lines t 10 rest) (Outside event ∷ []) s.next m (λ pc at. gets_step c.parts s.next pc byte more at s.value (s.input ∙ sym whole.input ∙ next_is)) in
        let bytes : AreBytes (byte ∷ more) = subst AreBytes (sym whole.input ∙ next_is) whole.given in
        let small : byte < 256 = bytes.0 in
        let world_then : HasWorld m (record world { input = more }) = record {
          memory = whole.memory ∙ ap region (sym s.bytes);
          input = refl;
          small = λ q. subst (λ (b : ℕ → ℕ). b q < 256) (sym s.bytes) (whole.small q);
          given = bytes.1;
        } in
        let after = framed_kept l m framed soft.keeps in
        before_does 2 3 3 (get_lines t rest) (settle_lines t 10 rest) rest l m (Outside event ∷ []) (Plain event ∷ []) [] (with_written places (number_of t) byte) (record world { input = more })
        (followed c 1 2 1 1 (get_lines t rest) (line.Plain Ecall ∷ settle_lines t 10 rest) (settle_lines t 10 rest) [] (Outside event ∷ []) l s.next m s.path call)
        refl (tt, tt) soft.keeps
        (write_does c 3 (settle_lines t 10 rest) rest m t byte places (record world { input = more }) after ht (omega arith) (places_soft l m places soft has) world_then
        (settle_writes c t 10 byte rest m after ht (omega arith) (omega arith) (set_same s.next.x 10 byte (omega arith)) (omega arith)))

    -- ---- output

    pub put_does : (a : PlacedOperand) (v : ℕ) (rest : List Line) → IsOperand a → operand_value places a ≡ Some v → Does c 6 (put_lines a rest) rest l (Plain (Put (v % 256)) ∷ []) places world
    put_does a v rest ha ea =
        let mid = ask_lines 1 rest in
        let last = line.Plain Ecall ∷ rest in
        let fits = operand_word l places has a v ha ea in
        let s = take_sets c 10 a v mid l framed ha (operand_has l places has a v ha ea) fits (omega arith) (omega arith) in
        let soft1 = sets_soft 1 3 (put_lines a rest) mid l 10 v (ten_free) s in
        let t = constant_sets c 17 1 last s.next (omega arith) (omega arith) (omega arith) (soft1.keeps.zero ∙ framed.zero) in
        let soft2 = sets_soft 1 2 mid last s.next 17 1 seventeen_free t in
        let soft = soft_then l s.next t.next soft1 soft2 in
        let ten : t.next.x 10 ≡ v = t.other 10 (omega arith) (omega arith) ∙ s.value in
        let event = Put (v % 256) in
        let call = straight c Ecall rest (Outside event ∷ []) t.next t.next (λ pc at.
        puts_step c.parts t.next pc at t.value ∙ ap (λ x. Goes (Outside (Put (x % 256)) ∷ []) (state_of c.parts t.next (pc + 4))) ten) in
        record {
          next = t.next;
          lower = Outside event ∷ [];
          path = loosened c (1 + (1 + 1)) (3 + (2 + 1)) 1 6 (put_lines a rest) rest (Outside event ∷ []) l t.next (omega arith) (omega arith)
              (followed c 1 3 2 3 (put_lines a rest) mid rest [] (Outside event ∷ []) l s.next t.next s.path
              (followed c 1 2 1 1 mid last rest [] (Outside event ∷ []) s.next t.next t.next t.path call));
          seen = refl;
          allowed = (tt, tt);
          keeps = soft.keeps;
          has = places_soft l t.next places soft has;
          world_is = record {
            memory = whole.memory ∙ ap region (sym (t.bytes ∙ s.bytes));
            input = whole.input ∙ sym (t.input ∙ s.input);
            small = λ q. subst (λ (b : ℕ → ℕ). b q < 256) (sym (t.bytes ∙ s.bytes)) (whole.small q);
            given = subst AreBytes (sym (t.input ∙ s.input)) whole.given;
          };
        }
