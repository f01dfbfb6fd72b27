-- What passes keep of three-address code, one after another.
use Rattle.std.proofs.Common.{◌≡◌, ℕ, ◌+◌, ◌*◌, ◌≤◌, List, [], ◌∷◌, map, sym, subst, arith}
use Rattle.std.specs.Prelude.{All}
use Rattle.std.proofs.lemmas.List.Elements.{All-nil, All-cons, All-head, All-tail, All-map}
use Rattle.ckc_base.specs.Follows.{Follows}
use Rattle.ckc_base.proofs.Following.{follows_trans}
use Rattle.ckc_tac.specs.declared.code.Tac.{Tac}
use Rattle.ckc_tac.specs.declared.code.TacFunc.{TacFunc}
use Rattle.ckc_tac.specs.Meaning.{tac_detail}
use Rattle.ckc_tac.specs.code.Meaning.{tac_meaning}
use Rattle.ckc_tac.specs.WellFormed.{HasFewRegisters}
use Rattle.ckc_build_compile.specs.code.Layers.{FollowsOn}
use Rattle.ckc_build_compile.proofs.Composed.{follows_detail}

-- a program that follows another one in at most as many steps
pub one_pass : (t after : Tac) → ((input : List ℕ) → Follows (tac_detail t input) (tac_detail after input) 1) → FollowsOn t after 1
one_pass t after follows = record {
  seen = λ input a c h.
      let steps : 1 * (c + 1) ≡ c + 1 = omega arith in
      subst (λ (n : ℕ). Follows a (tac_meaning after input) n) steps (follows_detail a (tac_detail t input) (tac_detail after input) c 1 h (follows input));
  detail = λ input a c h.
      let steps : 1 * (c + 1) ≡ c + 1 = omega arith in
      subst (λ (n : ℕ). Follows a (tac_detail after input) n) steps (follows_trans a (tac_detail t input) (tac_detail after input) c 1 h (follows input));
}

-- one pass more
pub pass_more : (t before after : Tac) (n : ℕ) → FollowsOn t before n → ((input : List ℕ) → Follows (tac_detail before input) (tac_detail after input) 1) → FollowsOn t after (n + 1)
pass_more t before after n f follows =
    let one = one_pass before after follows in
    record {
      seen = λ input a c h.
          let steps : c + n + 1 ≡ c + (n + 1) = omega arith in
          subst (λ (m : ℕ). Follows a (tac_meaning after input) m) steps (one.seen input a (c + n) (f.seen input a c h));
      detail = λ input a c h.
          let steps : c + n + 1 ≡ c + (n + 1) = omega arith in
          subst (λ (m : ℕ). Follows a (tac_detail after input) m) steps (one.detail input a (c + n) (f.detail input a c h));
    }

few_of : (fs : List TacFunc) → All (λ n. n ≤ 4064) (map (λ (f : TacFunc). f.regs) fs) → All (λ (f : TacFunc). f.regs ≤ 4064) fs
few_of [] h = All-nil (λ (f : TacFunc). f.regs ≤ 4064)
few_of (f ∷ fs) h =
    All-cons (λ (f : TacFunc). f.regs ≤ 4064) f fs (All-head (λ n. n ≤ 4064) f.regs (map (λ (f : TacFunc). f.regs) fs) h)
    (few_of fs (All-tail (λ n. n ≤ 4064) f.regs (map (λ (f : TacFunc). f.regs) fs) h))

-- functions with as many registers as before have few, if they had
pub few_kept : (t after : Tac) → map (λ (f : TacFunc). f.regs) after.funcs ≡ map (λ (f : TacFunc). f.regs) t.funcs → HasFewRegisters t → HasFewRegisters after
few_kept t after same few = few_of after.funcs (subst (All (λ n. n ≤ 4064)) (sym same) (All-map (λ n. n ≤ 4064) (λ (f : TacFunc). f.regs) t.funcs few))
