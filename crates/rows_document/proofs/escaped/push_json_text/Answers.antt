use Rattle.std.proofs.Common.{◌≡◌, ℕ, ◌+◌, ◌<◌, ◌≤◌, List, [], ◌∷◌, ◌++◌, length, get_or, drop, sym, ap, ◌∙◌, subst, arith, append_assoc}
use Rattle.std.proofs.lemmas.Iterator.{YieldsList-from_chars}
use Rattle.std.proofs.lemmas.Iterator.Consumers.{YieldsList-turn, YieldsList-end}
use Rattle.std.proofs.lemmas.List.{drop_all, drop_more, length_push}
use Rattle.std.specs.List.{flat_map}
use Rattle.std.specs.Str.{chars}
use Rattle.rows_document.specs.Texts.{character_text, json_text}
use Rattle.rows_document.proofs.escaped.push_json_text.Goals as goal

-- the text of the next character
one_more : (cs : List ℕ) (n c : ℕ) (now total : List ℕ) → (n < length cs) × (c ≡ get_or cs n c) → now ++ (flat_map character_text (drop n cs) ++ 34 ∷ []) ≡ total
    → (now ++ character_text c) ++ (flat_map character_text (drop (n + 1) cs) ++ 34 ∷ []) ≡ total
one_more cs n c now total at so_far =
    append_assoc now (character_text c) (flat_map character_text (drop (n + 1) cs) ++ 34 ∷ [])
    ∙ ap (λ t. now ++ t) (sym (append_assoc (character_text c) (flat_map character_text (drop (n + 1) cs)) (34 ∷ [])))
    ∙ ap (λ x. now ++ (flat_map character_text (x ∷ drop (n + 1) cs) ++ 34 ∷ [])) at.1
    ∙ ap (λ xs. now ++ (flat_map character_text xs ++ 34 ∷ [])) (sym (drop_more cs n c at.0)) ∙ so_far

all_there : (cs : List ℕ) (n : ℕ) (now total : List ℕ) → length cs ≤ n → now ++ (flat_map character_text (drop n cs) ++ 34 ∷ []) ≡ total → now ++ 34 ∷ [] ≡ total
all_there cs n now total l so_far = ap (λ xs. now ++ (flat_map character_text xs ++ 34 ∷ [])) (sym (drop_all n cs l)) ∙ so_far

ended : (now new total : List ℕ) → new ≡ now ++ 34 ∷ [] → now ++ 34 ∷ [] ≡ total → new ≡ total
ended now new total e f = e ∙ f

pub loop-character-preserved : goal.loop-character-preserved
loop-character-preserved c =
    let t = YieldsList-turn (YieldsList-from_chars c.args.words.now c.utf8.words cc) c.loop-character.yielded _ c.loop-character.yielded_by _ _ c.in-Some.character c.in-Some.is c.next.ensures.steps in
    let n = length_push c.loop-character.yielded c.in-Some.character in
    let cs = chars c.args.words.now in
    let total = c.args.text.now.items ++ json_text c.args.words.now in
    subst (λ m. c.push_character.new.text.items ++ (flat_map character_text (drop m cs) ++ 34 ∷ []) ≡ total) (sym n)
    (ap (λ now. now ++ (flat_map character_text (drop (length c.loop-character.yielded + 1) cs) ++ 34 ∷ [])) c.in_ok-push_character.ensures
    ∙ one_more cs (length c.loop-character.yielded) c.in-Some.character c.loop-character.text.items total t c.loop-character.invariant)

pub returns : goal.returns
returns c =
    let t = YieldsList-end (YieldsList-from_chars c.args.words.now c.utf8.words cc) c.loop-character.yielded _ c.loop-character.yielded_by _ _ c.in-None.is c.next.ensures.steps in
    let all : length (chars c.args.words.now) ≤ length c.loop-character.yielded = omega (arith, t.1) in
    ended c.loop-character.text.items c.push-2.new.self.items _ c.in_ok-push-2.ensures.items (all_there (chars c.args.words.now) (length c.loop-character.yielded) c.loop-character.text.items _ all c.loop-character.invariant)
