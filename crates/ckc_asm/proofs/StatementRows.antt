-- Words and statements as the code keeps them.
use Rattle.std.proofs.Common.{◌≡◌, ℕ, List, map, Option, Some, None, sym, ap, ◌∙◌}
use Rattle.std.specs.Prelude.{unwrap_or}
use Rattle.std.specs.List.{slice_get}
use Rattle.std.specs.Option.{option_map}
use Rattle.std.proofs.lemmas.Simd.{map-map}
use Rattle.ckc_asm.specs.declared.items.Item.{Item}
use Rattle.ckc_asm.specs.declared.spots.Spot as spots
use Rattle.ckc_asm.specs.Cut.{Word}
use Rattle.ckc_asm.specs.code.Rows.{word_of, texts_of}
use Rattle.ckc_asm.specs.Items.{texts, no_word, operand_index}
use Rattle.ckc_asm.specs.code.Found.{item_of, statement_with}

pub texts_same : (words : List spots.Spot) → texts (map word_of words) ≡ texts_of words
texts_same words = map-map (λ (w : Word). w.text) word_of words

pub with_item : (label : Option Word) (words : List spots.Spot) (o : Option Item) → o ≡ item_of (texts_of words)
    → option_map (λ (i : Item). record { label = label; item = i; operand = unwrap_or (slice_get (map word_of words) (operand_index i.form)) no_word }) o ≡ statement_with label (map word_of words)
with_item label words o e =
    ap (λ o'. option_map (λ (i : Item). record { label = label; item = i; operand = unwrap_or (slice_get (map word_of words) (operand_index i.form)) no_word }) o')
    (e ∙ ap item_of (sym (texts_same words)))

pub with_none : (label : Option Word) (words : List spots.Spot) (o : Option Item) → o ≡ item_of (texts_of words) → o ≡ None → None ≡ statement_with label (map word_of words)
with_none label words o e is =
    sym (ap (λ o'. option_map (λ (i : Item). record { label = label; item = i; operand = unwrap_or (slice_get (map word_of words) (operand_index i.form)) no_word }) o') is)
    ∙ with_item label words o e

pub with_some : (label : Option Word) (words : List spots.Spot) (o : Option Item) (i : Item) (n : ℕ) (w : Word) → o ≡ item_of (texts_of words) → o ≡ Some i
    → n ≡ operand_index i.form → w ≡ unwrap_or (slice_get (map word_of words) n) no_word
    → Some (record { label = label; item = i; operand = w }) ≡ statement_with label (map word_of words)
with_some label words o i n w e is at here =
    ap (λ (v : Word). Some (record { label = label; item = i; operand = v })) (here ∙ ap (λ m. unwrap_or (slice_get (map word_of words) m) no_word) at)
    ∙ sym (ap (λ o'. option_map (λ (j : Item). record { label = label; item = j; operand = unwrap_or (slice_get (map word_of words) (operand_index j.form)) no_word }) o') is)
    ∙ with_item label words o e
