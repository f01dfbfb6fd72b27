-- How often objects were called, and what a source gave, one after another.
use Rattle.std.proofs.Common.{◌≡◌, ◌+◌, ℕ, List, [], ◌∷◌, ◌++◌, length, take, Option, Some, refl, sym, ap, subst, ◌∙◌, arith, append_assoc, append-nil}
use Rattle.std.proofs.Math.Seq.{take-append-add}
use Rattle.std.proofs.lemmas.Grind.{flat_map-append}
use Rattle.ckc_base.specs.Traces.{Event, Got, Put, output, put_byte}
use Rattle.ckc_outside.specs.Outside.{SeenSource, one_more}
use Rattle.ckc_outside.specs.Given.{after_each, answers_in, got_answer, AreBytes, AskedInVain, Called, Gave, Printed, PrintedFront, PutInVain, Showed, Streams}

-- ---- counts

pub after_none : (A : Type 0) (n : ℕ) → n ≡ after_each {A = A} n []
unfolding after_each
after_none A n = refl

pub after_one : {A : Type 0} (n : ℕ) (a : A) → one_more n ≡ after_each n (a ∷ [])
unfolding after_each
after_one n a = refl

pub after_both : {A : Type 0} (n : ℕ) (more then : List A) → after_each (after_each n more) then ≡ after_each n (more ++ then)
unfolding after_each
after_both n [] then = refl
after_both n (a ∷ more) then = after_both (one_more n) more then

pub one_then_each : {A : Type 0} (n : ℕ) (more : List A) → after_each (one_more n) more ≡ one_more (after_each n more)
unfolding after_each
one_then_each n [] = refl
one_then_each n (a ∷ more) = one_then_each (one_more n) more

-- ---- calls

module _ (asks asks' puts puts' : ℕ) where
  pub called_none : asks' ≡ asks → puts' ≡ puts → Called [] asks asks' puts puts'
  called_none e f = record { asked = e ∙ after_none (Option ℕ) asks; put = f ∙ after_none ℕ puts }

  pub called_get : (answer : Option ℕ) → asks' ≡ one_more asks → puts' ≡ puts → Called (Got answer ∷ []) asks asks' puts puts'
  called_get answer e f = record { asked = e ∙ after_one asks answer; put = f ∙ after_none ℕ puts }

  pub called_put : (byte : ℕ) → asks' ≡ asks → puts' ≡ one_more puts → Called (Put byte ∷ []) asks asks' puts puts'
  called_put byte e f = record { asked = e ∙ after_none (Option ℕ) asks; put = f ∙ after_one puts byte }

pub called_both : (one two : List Event) (asks mid asks' puts midway puts' : ℕ) → Called one asks mid puts midway → Called two mid asks' midway puts' → Called (one ++ two) asks asks' puts puts'
called_both one two asks mid asks' puts midway puts' p q = record {
  asked = q.asked ∙ ap (λ n. after_each n (answers_in two)) p.asked ∙ after_both asks (answers_in one) (answers_in two) ∙ ap (after_each asks) (sym (flat_map-append got_answer one two));
  put = q.put ∙ ap (λ n. after_each n (output two)) p.put ∙ after_both puts (output one) (output two) ∙ ap (after_each puts) (sym (flat_map-append put_byte one two));
}

-- one more call of each may be counted first or last
pub asked_once_more : (trace : List Event) (asks mid puts puts' : ℕ) → Called trace asks mid puts puts' → Called trace (one_more asks) (one_more mid) puts puts'
asked_once_more trace asks mid puts puts' p = record { asked = ap one_more p.asked ∙ sym (one_then_each asks (answers_in trace)); put = p.put }

pub put_once_more : (trace : List Event) (asks asks' puts mid : ℕ) → Called trace asks asks' puts mid → Called trace asks asks' (one_more puts) (one_more mid)
put_once_more trace asks asks' puts mid p = record { asked = p.asked; put = ap one_more p.put ∙ sym (one_then_each puts (output trace)) }

-- ---- what was shown

printed_none : (written : Option (List ℕ)) → Printed written written []
printed_none written before e = e ∙ ap Some (sym (append-nil before))

printed_both : (old mid new : Option (List ℕ)) (one two : List ℕ) → Printed old mid one → Printed mid new two → Printed old new (one ++ two)
printed_both old mid new one two p q before e = q (before ++ one) (p before e) ∙ ap Some (append_assoc before one two)

front_after : (old mid new : Option (List ℕ)) (one two : List ℕ) → Printed old mid one → PrintedFront mid new 0 two → PrintedFront old new (length one) (one ++ two)
front_after old mid new one two p q before e =
    let f = q (before ++ one) (p before e) in
    (length one + f.0, omega arith, f.2 ∙ ap Some (append_assoc before one (take f.0 two)) ∙ ap (λ l. Some (before ++ l)) (sym (take-append-add one two f.0)))

pub showed_nothing : (out : Streams) → Showed out out []
showed_nothing out = record { put = printed_none out.written; called = called_none out.asks out.asks out.puts out.puts refl refl }

module _ (old mid new : Streams) (one : List Event) (first : Showed old mid one) where
  pub showed_both : (two : List Event) → Showed mid new two → Showed old new (one ++ two)
  showed_both two then = record {
    put = subst (Printed old.written new.written) (sym (flat_map-append put_byte one two)) (printed_both old.written mid.written new.written (output one) (output two) first.put then.put);
    called = called_both one two old.asks mid.asks new.asks old.puts mid.puts new.puts first.called then.called;
  }

  pub showed_still : Showed mid new [] → Showed old new one
  showed_still then = subst (Showed old new) (append-nil one) (showed_both [] then)

  pub asked_then : AskedInVain mid new [] → AskedInVain old new one
  asked_then then = record {
    put = subst (Printed old.written new.written) (append-nil (output one)) (printed_both old.written mid.written new.written (output one) [] first.put then.put);
    called =
        subst (λ (t : List Event). Called t (one_more old.asks) new.asks old.puts new.puts) (append-nil one)
        (called_both one [] (one_more old.asks) (one_more mid.asks) new.asks old.puts mid.puts new.puts (asked_once_more one old.asks mid.asks old.puts mid.puts first.called) then.called);
  }

  pub put_then : (byte : ℕ) → PutInVain mid new [] byte → PutInVain old new one byte
  put_then byte then = record {
    put = front_after old.written mid.written new.written (output one) (byte ∷ []) first.put then.put;
    called =
        subst (λ (t : List Event). Called t old.asks new.asks (one_more old.puts) new.puts) (append-nil one)
        (called_both one [] old.asks mid.asks new.asks (one_more old.puts) (one_more mid.puts) new.puts (put_once_more one old.asks mid.asks old.puts mid.puts first.called) then.called);
  }

-- a call of the input, and what came of it
module _ (old new : Streams) (written : new.written ≡ old.written) (asked : new.asks ≡ one_more old.asks) (puts : new.puts ≡ old.puts) where
  nothing_put : Printed old.written new.written []
  nothing_put = subst (λ (w : Option (List ℕ)). Printed old.written w []) (sym written) (printed_none old.written)

  pub showed_get : (answer : Option ℕ) → Showed old new (Got answer ∷ [])
  showed_get answer = record { put = nothing_put; called = called_get old.asks new.asks old.puts new.puts answer asked puts }

  pub got_nothing : AskedInVain old new []
  got_nothing = record { put = nothing_put; called = called_none (one_more old.asks) new.asks old.puts new.puts asked puts }

-- a call of the output for one byte, and what came of it
module _ (old new : Streams) (byte : ℕ) (asked : new.asks ≡ old.asks) (puts : new.puts ≡ one_more old.puts) where
  pub showed_put : Printed old.written new.written (byte ∷ []) → Showed old new (Put byte ∷ [])
  showed_put put = record { put = put; called = called_put old.asks new.asks old.puts new.puts byte asked puts }

  pub put_nothing : PrintedFront old.written new.written 0 (byte ∷ []) → PutInVain old new [] byte
  put_nothing put = record { put = put; called = called_none old.asks new.asks (one_more old.puts) new.puts asked puts }

-- ---- what was given

all_given : (more then : List ℕ) → AreBytes more → AreBytes then → AreBytes (more ++ then)
all_given [] then m t = t
all_given (byte ∷ more) then m t = (m.0, all_given more then m.1 t)

pub both_none : (more then : List ℕ) → more ≡ [] → then ≡ [] → more ++ then ≡ []
both_none more then e f = ap (λ l. l ++ then) e ∙ f

-- a source that was not asked
pub gave_nothing : (s : SeenSource) → Gave s s []
gave_nothing s = record { count = after_none ℕ s.answers; bytes = tt; none = λ t. refl; stays = λ t. t }

-- what was given first, and what was given then
pub gave_both : (old mid new : SeenSource) (more then : List ℕ) → Gave old mid more → Gave mid new then → Gave old new (more ++ then)
gave_both old mid new more then f t = record {
  count = t.count ∙ ap (λ n. after_each n then) f.count ∙ after_both old.answers more then;
  bytes = all_given more then f.bytes t.bytes;
  none = λ e. both_none more then (f.none e) (t.none (f.stays e));
  stays = λ e. t.stays (f.stays e);
}
