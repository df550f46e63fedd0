-- What is read may stand at its places.
use Rattle.std.proofs.Common.{◌≡◌, ◌&&◌, ℕ, Bool, true, false, cond, leb, length, ltb, List, [], ◌∷◌, Option, Some, None, IfSome, option_and_then, option_map, refl, sym, ap, subst, ◌∙◌}
use Rattle.std.specs.List.{list_all, position_or_len}
use Rattle.std.specs.Str.{bytes_eq}
use Rattle.std.specs.Str.Parse.{digits_value}
use Rattle.std.proofs.lemmas.Bool.{leb-true, ltb-true}
use Rattle.nr_words.specs.Forms.{AllFit, Choice, Digits, Fits, FitsForm, Form, Number, Place, Value, before, digits, file, form_of, formed, is_digest, is_plain, number, one_of, place_value, read, values, with_verb}
use Rattle.nr_words.specs.Numbers.{is_numeral}
use Rattle.nr_words.proofs.Both.{both_left, both_right}
use Rattle.nr_words.proofs.Tables.{verb_is}

place_fits : (p : Place) (word : List ℕ) → IfSome (place_value p word) (Fits p)
place_fits (file name) word = tt
place_fits (number name least most) word = go (is_numeral word && (leb least (digits_value 10 word) && leb (digits_value 10 word) most)) refl
  where
    go : (t : Bool) → (is_numeral word && (leb least (digits_value 10 word) && leb (digits_value 10 word) most)) ≡ t → IfSome (option_map Number (cond t (Some (digits_value 10 word)) None)) (Fits (number name least most))
    go true is =
        let within : (leb least (digits_value 10 word) && leb (digits_value 10 word) most) ≡ true = both_right (is_numeral word) _ is in
        (leb-true least (digits_value 10 word) (both_left (leb least (digits_value 10 word)) _ within), leb-true (digits_value 10 word) most (both_right (leb least (digits_value 10 word)) _ within))
    go false is = tt
place_fits (digits name) word = go (is_digest word) refl
  where
    go : (t : Bool) → is_digest word ≡ t → IfSome (cond t (Some (Digits word)) None) (Fits (digits name))
    go true is = is
    go false is = tt
place_fits (one_of name words) word = go (ltb (position_or_len (λ known. bytes_eq known word) words) (length words)) refl
  where
    go : (t : Bool) → ltb (position_or_len (λ known. bytes_eq known word) words) (length words) ≡ t → IfSome (option_map Choice (cond t (Some (position_or_len (λ known. bytes_eq known word) words)) None)) (Fits (one_of name words))
    go true is = ltb-true (position_or_len (λ known. bytes_eq known word) words) (length words) is
    go false is = tt

all_fit : (places : List Place) (words : List (List ℕ)) → IfSome (values places words) (AllFit places)
all_fit [] [] = tt
all_fit [] (word ∷ words) = tt
all_fit (p ∷ ps) [] = tt
all_fit (p ∷ ps) (word ∷ words) = go (place_value p word) (values ps words) (place_fits p word) (all_fit ps words)
  where
    go : (v : Option Value) (vs : Option (List Value)) → IfSome v (Fits p) → IfSome vs (AllFit ps) → IfSome (before v vs) (AllFit (p ∷ ps))
    go None vs f a = tt
    go (Some v) None f a = tt
    go (Some v) (Some vs) f a = (f, a)

formed_fits : (table : List Form) (words : List (List ℕ)) → IfSome (formed table words) (FitsForm table)
formed_fits table [] = tt
formed_fits table (verb ∷ words) = go (form_of table verb) refl
  where
    go : (o : Option Form) → form_of table verb ≡ o → IfSome (option_and_then (λ (form : Form). with_verb form (values form.places words)) o) (FitsForm table)
    go None is = tt
    go (Some form) is = with_values (values form.places words) (all_fit form.places words)
      where
        here : form_of table form.verb ≡ Some form
        here = ap (form_of table) (verb_is table verb form is) ∙ is

        with_values : (vs : Option (List Value)) → IfSome vs (AllFit form.places) → IfSome (with_verb form vs) (FitsForm table)
        with_values None f = tt
        with_values (Some vs) f = subst (λ (o : Option Form). IfSome o (λ (g : Form). AllFit g.places vs)) (sym here) f

-- what is read fits its form
pub read_fits : (table : List Form) (words : List (List ℕ)) → IfSome (read table words) (FitsForm table)
unfolding read
read_fits table words = go (list_all is_plain words)
  where
    go : (t : Bool) → IfSome (cond t (formed table words) None) (FitsForm table)
    go true = formed_fits table words
    go false = tt
