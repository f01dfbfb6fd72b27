-- The words of a line that is made of words, marks and blanks.
use Rattle.std.proofs.Common.{◌≡◌, ℕ, ◌+◌, ◌<◌, ◌==◌, Bool, true, false, cond, ◌&&◌, ◌||◌, not, List, [], ◌∷◌, ◌++◌, length, codes, refl, sym, ap, ◌∙◌, subst, arith, append_assoc, Some, None}
use Rattle.std.specs.List.{list_all, slice_get}
use Rattle.std.specs.Option.{option_map, unwrap_or}
use Rattle.std.proofs.lemmas.List.{append-nil}
use Rattle.std.proofs.lemmas.List.Folds.{list_all-append}
use Rattle.ckc_asm.specs.declared.items.Form.{Form}
use Rattle.ckc_asm.specs.declared.items.Operand.{Operand}
use Rattle.ckc_asm.specs.declared.items.Item.{Item}
use Rattle.ckc_asm.specs.Cut.{Word, cut, is_blank, is_mark, is_hash, is_word_byte, goes_on, onto_word, new_word}
use Rattle.ckc_asm.specs.Items.{Statement, texts, item, no_word, operand_index}
use Rattle.ckc_asm.specs.code.Found.{item_of, statement_of, statement_with, labelled, has_label, is_sign, reading}

-- ---- a row of plain bytes

-- a byte of a word, and no line feed
abbrev pub is_plain : ℕ → Bool
is_plain b = is_word_byte b && not (b == 10)

pub record IsRun (w : List ℕ) : Type 0 where
  pub some : 0 < length w
  pub plain : list_all is_plain w ≡ true

both : (a b : Bool) → (a && b) ≡ true → (a ≡ true) × (b ≡ true)
both true b h = (refl, h)
both false b h = absurd (let z : false ≡ true = h in cc)

and_true : (a b : Bool) → a ≡ true → b ≡ true → (a && b) ≡ true
and_true a b p q = rw (p, q) refl

pub none_of : (a b c : Bool) → not (a || b || c) ≡ true → (a ≡ false) × (b ≡ false) × (c ≡ false)
none_of true b c h = absurd (let z : false ≡ true = h in cc)
none_of false true c h = absurd (let z : false ≡ true = h in cc)
none_of false false true h = absurd (let z : false ≡ true = h in cc)
none_of false false false h = (refl, refl, refl)

-- the first byte of a word
pub cut_first : (col b : ℕ) (rest : List ℕ) → is_word_byte b ≡ true → cut col (b ∷ rest) ≡ cond (goes_on rest) (onto_word col b (cut (col + 1) rest)) (new_word col b (cut (col + 1) rest))
unfolding cut
cut_first col b rest h =
    let n = none_of (is_blank b) (is_mark b) (is_hash b) h in
    rw (n.0, n.1, n.2) refl

cut_run : (b col : ℕ) (w rest : List ℕ) → list_all is_plain (b ∷ w) ≡ true → goes_on rest ≡ false
    → (c : ℕ) × (cut col ((b ∷ w) ++ rest) ≡ record { col = col; text = b ∷ w } ∷ cut c rest)
cut_run b col [] rest plain ends =
    let p = both (is_plain b) true plain in
    let q = both (is_word_byte b) (not (b == 10)) p.0 in
    (col + 1, cut_first col b rest q.0 ∙ ap (λ g. cond g (onto_word col b (cut (col + 1) rest)) (new_word col b (cut (col + 1) rest))) ends)
cut_run b col (d ∷ w) rest plain ends =
    let p = both (is_plain b) (list_all is_plain (d ∷ w)) plain in
    let q = both (is_word_byte b) (not (b == 10)) p.0 in
    let r = both (is_plain d) (list_all is_plain w) p.1 in
    let s = both (is_word_byte d) (not (d == 10)) r.0 in
    let more = cut_run d (col + 1) w rest p.1 ends in
    let behind = (d ∷ w) ++ rest in (
      more.0,
      cut_first col b behind q.0
          ∙ ap (λ g. cond g (onto_word col b (cut (col + 1) behind)) (new_word col b (cut (col + 1) behind))) s.0
          ∙ ap (onto_word col b) more.1,
    )

-- ---- what words a line shows

abbrev pub not_feed : ℕ → Bool
not_feed b = not (b == 10)

-- the line has no line feed, and these words
pub record Shows (line : List ℕ) (words : List (List ℕ)) : Type 0 where
  pub clean : list_all not_feed line ≡ true
  pub cuts : (col : ℕ) → texts (cut col line) ≡ words

pub shows_end : Shows [] []
unfolding cut
shows_end = record { clean = refl; cuts = λ col. refl }

pub shows_blank : (rest : List ℕ) (words : List (List ℕ)) → Shows rest words → Shows (32 ∷ rest) words
unfolding cut
shows_blank rest words s = record { clean = s.clean; cuts = λ col. s.cuts (col + 1) }

pub shows_comma : (rest : List ℕ) (words : List (List ℕ)) → Shows rest words → Shows (44 ∷ rest) ((44 ∷ []) ∷ words)
unfolding cut
shows_comma rest words s = record { clean = s.clean; cuts = λ col. ap (λ l. (44 ∷ []) ∷ l) (s.cuts (col + 1)) }

pub shows_open : (rest : List ℕ) (words : List (List ℕ)) → Shows rest words → Shows (40 ∷ rest) ((40 ∷ []) ∷ words)
unfolding cut
shows_open rest words s = record { clean = s.clean; cuts = λ col. ap (λ l. (40 ∷ []) ∷ l) (s.cuts (col + 1)) }

pub shows_close : (rest : List ℕ) (words : List (List ℕ)) → Shows rest words → Shows (41 ∷ rest) ((41 ∷ []) ∷ words)
unfolding cut
shows_close rest words s = record { clean = s.clean; cuts = λ col. ap (λ l. (41 ∷ []) ∷ l) (s.cuts (col + 1)) }

clean_run : (w : List ℕ) → list_all is_plain w ≡ true → list_all not_feed w ≡ true
clean_run [] h = refl
clean_run (b ∷ w) h =
    let p = both (is_plain b) (list_all is_plain w) h in
    and_true (not_feed b) (list_all not_feed w) (both (is_word_byte b) (not_feed b) p.0).1 (clean_run w p.1)

pub shows_run : (w rest : List ℕ) (words : List (List ℕ)) → IsRun w → goes_on rest ≡ false → Shows rest words → Shows (w ++ rest) (w ∷ words)
shows_run [] rest words run ends s = absurd (let h : 0 < length {A = ℕ} [] = run.some in omega arith)
shows_run (b ∷ w) rest words run ends s = record {
  clean = list_all-append not_feed (b ∷ w) rest ∙ and_true _ _ (clean_run (b ∷ w) run.plain) s.clean;
  cuts = λ col. (let r = cut_run b col w rest run.plain ends in ap texts r.1 ∙ ap (λ l. (b ∷ w) ∷ l) (s.cuts r.0));
}

pub shows_last : (w : List ℕ) → IsRun w → Shows w (w ∷ [])
shows_last w run = subst (λ (l : List ℕ). Shows l (w ∷ [])) (append-nil w) (shows_run w [] [] run refl shows_end)

-- ---- the lines of a listing

abbrev comma : List ℕ
comma = 44 ∷ []

-- operands by themselves
pub shows_two : (a line : List ℕ) (words : List (List ℕ)) → IsRun a → Shows line words → Shows (a ++ codes ", " ++ line) (a ∷ comma ∷ words)
shows_two a line words run s =
    subst (λ (l : List ℕ). Shows l (a ∷ comma ∷ words)) (sym (append_assoc a (codes ", ") line))
    (shows_run a (codes ", " ++ line) (comma ∷ words) run refl (shows_comma (32 ∷ line) words (shows_blank line words s)))

pub shows_named : (name line : List ℕ) (words : List (List ℕ)) → IsRun name → Shows line words → Shows (name ++ codes " " ++ line) (name ∷ words)
shows_named name line words run s =
    subst (λ (l : List ℕ). Shows l (name ∷ words)) (sym (append_assoc name (codes " ") line))
    (shows_run name (codes " " ++ line) words run refl (shows_blank line words s))

pub shows_three : (a b line : List ℕ) (words : List (List ℕ)) → IsRun a → IsRun b → Shows line words → Shows ((a ++ codes ", " ++ b) ++ codes ", " ++ line) (a ∷ comma ∷ b ∷ comma ∷ words)
shows_three a b line words ra rb s =
    subst (λ (l : List ℕ). Shows l (a ∷ comma ∷ b ∷ comma ∷ words))
    (sym (append_assoc (a ++ codes ", " ++ b) (codes ", ") line ∙ append_assoc (a ++ codes ", ") b (codes ", " ++ line)
    ∙ ap (λ l. a ++ codes ", " ++ l) (sym (append_assoc b (codes ", ") line))))
    (shows_two a (b ++ codes ", " ++ line) (b ∷ comma ∷ words) ra (shows_two b line words rb s))

pub shows_base : (n r : List ℕ) → IsRun n → IsRun r → Shows (n ++ codes "(" ++ r ++ codes ")") (n ∷ (40 ∷ []) ∷ r ∷ (41 ∷ []) ∷ [])
shows_base n r rn rr =
    subst (λ (l : List ℕ). Shows l (n ∷ (40 ∷ []) ∷ r ∷ (41 ∷ []) ∷ []))
    (sym (append_assoc (n ++ codes "(") r (codes ")") ∙ append_assoc n (codes "(") (r ++ codes ")")))
    (shows_run n (40 ∷ (r ++ codes ")")) ((40 ∷ []) ∷ r ∷ (41 ∷ []) ∷ []) rn refl (shows_open (r ++ codes ")") (r ∷ (41 ∷ []) ∷ []) (shows_run r (codes ")") ((41 ∷ []) ∷ []) rr refl (shows_close [] [] shows_end))))

-- ---- the statement of such a line

-- the line has this statement, without a label
pub record Reads (line : List ℕ) (f : Form) (operand : Operand) : Type 0 where
  pub clean : list_all not_feed line ≡ true
  pub statement : Statement
  pub reads : reading line ≡ Some statement
  pub unlabelled : statement.label ≡ None
  pub item_is : statement.item ≡ item f operand

abbrev pub second_is_colon : List (List ℕ) → Bool
second_is_colon (w ∷ v ∷ ws) = is_sign 58 v
second_is_colon _ = false

label_by_texts : (words : List Word) → has_label words ≡ second_is_colon (texts words)
label_by_texts [] = refl
label_by_texts (w ∷ []) = refl
label_by_texts (w ∷ v ∷ ws) = refl

pub reads_item : (line : List ℕ) (words : List (List ℕ)) (f : Form) (operand : Operand) → Shows line words → second_is_colon words ≡ false → item_of words ≡ Some (item f operand) → Reads line f operand
unfolding statement_of
reads_item line words f operand s no_label is =
    let ws = cut 1 line in
    let plain : has_label ws ≡ false = label_by_texts ws ∙ ap second_is_colon (s.cuts 1) ∙ no_label in
    let found : item_of (texts ws) ≡ Some (item f operand) = ap item_of (s.cuts 1) ∙ is in
    let operand_word = unwrap_or (slice_get ws (operand_index f)) no_word in
    record {
      clean = s.clean;
      statement = record { label = None; item = item f operand; operand = operand_word };
      reads =
          ap (λ b. cond b (labelled ws) (statement_with None ws)) plain
          ∙ ap (λ o. option_map (λ (i : Item). record { label = None; item = i; operand = unwrap_or (slice_get ws (operand_index i.form)) no_word }) o) found;
      unlabelled = refl;
      item_is = refl;
    }

last_of_marks : (a b c d : Bool) → (a || b || c || d) ≡ false → d ≡ false
last_of_marks true b c d h = absurd (let z : true ≡ false = h in cc)
last_of_marks false true c d h = absurd (let z : true ≡ false = h in cc)
last_of_marks false false true d h = absurd (let z : true ≡ false = h in cc)
last_of_marks false false false d h = h

-- a row of plain bytes is no colon
pub no_colon_run : (w : List ℕ) → IsRun w → is_sign 58 w ≡ false
no_colon_run [] run = refl
no_colon_run (b ∷ w) run =
    let p = both (is_plain b) (list_all is_plain w) run.plain in
    let q = both (is_word_byte b) (not (b == 10)) p.0 in
    let n = none_of (is_blank b) (is_mark b) (is_hash b) q.0 in
    let e : (b == 58) ≡ false = last_of_marks (b == 44) (b == 40) (b == 41) (b == 58) n.1 in
    rw e refl
