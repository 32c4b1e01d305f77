-- No line is longer than a text's lines may be.
use Rattle.std.proofs.Common.{◌≡◌, ℕ, suc, ◌+◌, ◌-◌, ◌^◌, ◌<◌, ◌≤◌, Bool, true, false, cond, leb, ltb, ◌&&◌, List, [], ◌∷◌, length, Option, Some, None, refl, sym, ap, ◌∙◌, arith, length-append, codes}
use Rattle.std.specs.Fmt.{decimal}
use Rattle.std.specs.List.{list_all}
use Rattle.std.specs.Str.{bytes_eq}
use Rattle.std.proofs.lemmas.Bool.{ltb-true}
use Rattle.std.proofs.lemmas.Bool.Decides.{nat_tests}
use Rattle.std.proofs.lemmas.Fmt.{length-decimal-le}
use Rattle.std.proofs.lemmas.Slice.Eq.{bytes_eq-Decides}
use Rattle.hex.specs.Hex.{lower_digits, encode_lower}
use Rattle.hex.proofs.HexLemmas.{length-encode_with}
use Rattle.tree_specs.specs.declared.schedule.Version.TheVariants.{Two}
use Rattle.tree_specs.specs.declared.object.Obj.{Obj}
use Rattle.tree_specs.specs.declared.object.Owner.{Owner}
use Rattle.tree_specs.specs.declared.object.Owner.TheVariants.{Root, Of}
use Rattle.tree_specs.specs.declared.moment.What.{What}
use Rattle.tree_specs.specs.declared.moment.What.TheVariants as whats
use Rattle.tree_specs.specs.declared.question.Ask.{Ask}
use Rattle.tree_specs.specs.declared.question.Ask.TheVariants as asks
use Rattle.tree_specs.specs.declared.report.RowKind.{RowKind}
use Rattle.tree_specs.specs.declared.report.RowKind.TheVariants as row_kinds
use Rattle.tree_specs.specs.Calls.Spelling.{Numeral}
use Rattle.tree_specs.specs.Calls.Spelling.Numeral.{Number}
use Rattle.tree_specs.specs.Texts.Grammar.{words}
use Rattle.tree_specs.specs.Texts.Lines.{line_limit}
use Rattle.tree_specs.specs.Words.Names.{is_name, is_graphic}
use Rattle.tree_specs.specs.Words.Objects.{owner_number}
use Rattle.tree_specs.specs.Words.Octets.{is_octets}
use Rattle.tree_specs.specs.Words.Ranges.{is_number, is_in, is_sound_owner}
use Rattle.text_forms.specs.Bytes.{are_bytes}
use Rattle.text_forms.proofs.Bools.{and_true}
use Rattle.text_forms.proofs.Calls.{has_field}
use Rattle.text_forms.proofs.Fields.{numeral_field, owner_field, object_field, name_field}
use Rattle.text_forms.proofs.Hexadecimal.{is_sound_octets, octets_field}
use Rattle.text_forms.proofs.Words.{joined, joined-words}
use Rattle.transcript_lines.specs.Lines.{Line, Form, read, a_what, row_end, row_form, refusal_form, numbers_form, reply_form, moment_form, outside_form, ask_form, end_form, fired_end, event_form, line_form, line_of}
use Rattle.transcript_lines.specs.Lines.Line.{Asks, Ends}
use Rattle.transcript_lines.specs.Lines.Form.{Fails, Done, IfWord, MayEnd, TakesNumeral, TakesObject, TakesOwner, EndsInName, EndsInBytes}

-- ---- words, each with a byte behind it

abbrev size : List (List ℕ) → ℕ
size [] = 0
size (w ∷ ws) = suc (length w) + size ws

joined_short : (ws : List (List ℕ)) → length (joined ws) ≤ size ws
joined_short [] = omega arith
joined_short (w ∷ []) = omega arith
joined_short (w ∷ v ∷ ws) = let rest = joined_short (v ∷ ws) in omega (arith, rest, length-append w (32 ∷ joined (v ∷ ws)))

-- ---- one value

digits_short : (n : ℕ) → n < 2 ^ 64 → length (decimal n) ≤ 20
digits_short n lt = length-decimal-le 20 n (omega arith) (omega (arith, lt)) lt

is_small : (kind : Numeral) (n : ℕ) → is_in kind n ≡ true → n < 2 ^ 64
is_small Number n h = ltb-true n (2 ^ 64) h
is_small _ n h = grind (arith, nat_tests)

owner_small : (o : Owner) → is_sound_owner o ≡ true → owner_number o < 2 ^ 64
owner_small Root h = omega arith
owner_small (Of x) h = ltb-true x.0 (2 ^ 64) (and_true (ltb 0 x.0) (is_number x.0) h).1

name_short : (name : List ℕ) → is_name name ≡ true → length name ≤ 1023
name_short name h = at_most (and_true (list_all is_graphic name && leb 1 (length name)) (leb (length name) 1023) h).1
  where
    at_most : leb (length name) 1023 ≡ true → length name ≤ 1023
    at_most e = grind (arith, nat_tests)

few_bytes : (bytes : List ℕ) → leb (length bytes) 65536 ≡ true → length bytes ≤ 65536
few_bytes bytes e = grind (arith, nat_tests)

bytes_short : (bytes : List ℕ) → is_sound_octets bytes ≡ true → length (encode_lower bytes) ≤ 131072
bytes_short bytes h =
    let few = few_bytes bytes (and_true (leb 1 (length bytes)) (leb (length bytes) 65536) (and_true (is_octets bytes) (are_bytes bytes) h).0).1 in
    omega (arith, few, length-encode_with lower_digits bytes)

-- ---- a form

-- all that it reads has at most so many bytes
abbrev Within : ℕ → Form → Type 0
Within k Fails = Unit {0}
Within k (Done line) = Unit {0}
Within k (IfWord word next other) = (leb (suc (length word)) k ≡ true) × Within (k - suc (length word)) next × Within k other
Within k (MayEnd line next) = Within k next
Within k (TakesNumeral kind next) = (leb 21 k ≡ true) × ((n : ℕ) → Within (k - 21) (next n))
Within k (TakesObject next) = (leb 21 k ≡ true) × ((x : Obj) → Within (k - 21) (next x))
Within k (TakesOwner next) = (leb 21 k ≡ true) × ((o : Owner) → Within (k - 21) (next o))
Within k (EndsInName line) = leb 1024 k ≡ true
Within k (EndsInBytes line) = leb 131073 k ≡ true

one_more : (most k : ℕ) (word : List ℕ) (more : List (List ℕ)) → leb (suc most) k ≡ true → length word ≤ most → size more ≤ k - suc most → size (word ∷ more) ≤ k
one_more most k word more enough short rest =
    let le : suc most ≤ k = grind (arith, nat_tests) in
    omega (arith, le, short, rest)

last_one : (most k : ℕ) (word : List ℕ) → leb (suc most) k ≡ true → length word ≤ most → size (word ∷ []) ≤ k
last_one most k word enough short =
    let le : suc most ≤ k = grind (arith, nat_tests) in
    omega (arith, le, short)

spelled_short : (word text : List ℕ) (most : ℕ) → word ≡ text → length text ≤ most → length word ≤ most
spelled_short word text most same le = let n = ap length same in omega (arith, n, le)

size_within : (form : Form) (k : ℕ) → Within k form → (ws : List (List ℕ)) (l : Line) → read form ws ≡ Some l → size ws ≤ k
size_within (Done line) k t [] l e = omega arith
size_within (IfWord word next other) k t (w ∷ ws) l e = by_test (bytes_eq w word) refl e (size_within next (k - suc (length word)) t.1 ws l) (size_within other k t.2 (w ∷ ws) l)
  where
    by_test : (b : Bool) → bytes_eq w word ≡ b → cond b (read next ws) (read other (w ∷ ws)) ≡ Some l → (read next ws ≡ Some l → size ws ≤ k - suc (length word))
        → (read other (w ∷ ws) ≡ Some l → size (w ∷ ws) ≤ k) → size (w ∷ ws) ≤ k
    by_test true is e yes_it no_it =
        let same = ap length ((bytes_eq-Decides w word).0 is) in
        one_more (length word) k w ws t.0 (omega (arith, same)) (yes_it e)
    by_test false is e yes_it no_it = no_it e
size_within (MayEnd line next) k t [] l e = omega arith
size_within (MayEnd line next) k t (w ∷ ws) l e = size_within next k t (w ∷ ws) l e
size_within (TakesNumeral kind next) k t (word ∷ more) l e =
    let x = has_field (numeral_field kind) word more _ l e in
    one_more 20 k word more t.0 (spelled_short word _ 20 x.text_is (digits_short x.value (is_small kind x.value x.value_is_sound))) (size_within (next x.value) (k - 21) (t.1 x.value) more l x.goes_on)
size_within (TakesObject next) k t (word ∷ more) l e =
    let x = has_field object_field word more _ l e in
    one_more 20 k word more t.0 (spelled_short word _ 20 x.text_is (digits_short x.value.0 (ltb-true x.value.0 (2 ^ 64) x.value_is_sound))) (size_within (next x.value) (k - 21) (t.1 x.value) more l x.goes_on)
size_within (TakesOwner next) k t (word ∷ more) l e =
    let x = has_field owner_field word more _ l e in
    one_more 20 k word more t.0 (spelled_short word _ 20 x.text_is (digits_short (owner_number x.value) (owner_small x.value x.value_is_sound))) (size_within (next x.value) (k - 21) (t.1 x.value) more l x.goes_on)
size_within (EndsInName line) k t (word ∷ []) l e =
    let x = has_field (name_field Two) word [] _ l e in
    last_one 1023 k word t (spelled_short word _ 1023 x.text_is (name_short x.value x.value_is_sound))
size_within (EndsInBytes line) k t (word ∷ []) l e =
    let x = has_field octets_field word [] _ l e in
    last_one 131072 k word t (spelled_short word _ 131072 x.text_is (bytes_short x.value x.value_is_sound))
size_within _ k t ws l e = absurd cc

-- ---- the tables, from small ones to the whole

enough_too : (m j k : ℕ) → j ≤ k → leb m j ≡ true → leb m k ≡ true
enough_too m j k le h = grind (arith, nat_tests)

less_too : (m j k : ℕ) → j ≤ k → j - m ≤ k - m
less_too m j k le = omega (arith, le)

wider : (form : Form) (j k : ℕ) → j ≤ k → Within j form → Within k form
wider Fails j k le t = tt
wider (Done line) j k le t = tt
wider (IfWord word next other) j k le t = (enough_too (suc (length word)) j k le t.0, wider next (j - suc (length word)) (k - suc (length word)) (less_too (suc (length word)) j k le) t.1, wider other j k le t.2)
wider (MayEnd line next) j k le t = wider next j k le t
wider (TakesNumeral kind next) j k le t = (enough_too 21 j k le t.0, λ n. wider (next n) (j - 21) (k - 21) (less_too 21 j k le) (t.1 n))
wider (TakesObject next) j k le t = (enough_too 21 j k le t.0, λ x. wider (next x) (j - 21) (k - 21) (less_too 21 j k le) (t.1 x))
wider (TakesOwner next) j k le t = (enough_too 21 j k le t.0, λ o. wider (next o) (j - 21) (k - 21) (less_too 21 j k le) (t.1 o))
wider (EndsInName line) j k le t = enough_too 1024 j k le t
wider (EndsInBytes line) j k le t = enough_too 131073 j k le t

-- where there is room for bytes and for as much again
abbrev Fits : Form → Type 0
Fits form = (k : ℕ) → leb 140000 k ≡ true → Within k form

fits_from : (form : Form) → Within 140000 form → Fits form
fits_from form t k enough =
    let le : 140000 ≤ k = grind (arith, nat_tests) in
    wider form 140000 k le t

moment_fits : (line : Ask → Line) (what : What) → Fits (moment_form line what)
moment_fits line what = fits_from (moment_form line what) (refl, λ x. (refl, λ routine. (refl, λ user. (refl, λ now. (refl, λ flags. (refl, λ step. tt))))))

what_fits : (next : What → Form) (other : Form) (k : ℕ) → leb 140010 k ≡ true → ((what : What) → Fits (next what)) → Within k other → Within k (a_what next other)
what_fits next other k enough each last =
    let le : 140010 ≤ k = grind (arith, nat_tests) in (
      room 4 le (omega arith),
      behind 4 le whats.Hook (omega arith),
      (
        room 5 le (omega arith),
        behind 5 le whats.Timer (omega arith),
        (
          room 9 le (omega arith),
          behind 9 le whats.Immediate (omega arith),
          (
            room 2 le (omega arith),
            behind 2 le whats.Descriptor (omega arith),
            (
              room 8 le (omega arith),
              behind 8 le whats.Callback (omega arith),
              (
                room 7 le (omega arith),
                behind 7 le whats.Cleanup (omega arith),
                (room 6 le (omega arith), behind 6 le whats.Cancel (omega arith), (room 7 le (omega arith), behind 7 le whats.Trigger (omega arith), last)),
              ),
            ),
          ),
        ),
      ),
    )
  where
    room : (n : ℕ) → 140010 ≤ k → n ≤ 9 → leb (suc n) k ≡ true
    room n le few = grind (arith, nat_tests)

    left : (n : ℕ) → 140010 ≤ k → n ≤ 9 → leb 140000 (k - suc n) ≡ true
    left n le few = let much : 140000 ≤ k - suc n = omega (arith, le, few) in grind (arith, nat_tests)

    behind : (n : ℕ) → 140010 ≤ k → (what : What) → n ≤ 9 → Within (k - suc n) (next what)
    behind n le what few = each what (k - suc n) (left n le few)

outside_within : (line : Ask → Line) (other : Form) → Within 150000 other → Within 150000 (outside_form line other)
outside_within line other last =
    (refl, tt, (refl, (refl, λ limit. tt), (refl, (refl, λ fd. tt), (refl, (refl, λ fd. (refl, λ most. tt)), (refl, (refl, λ fd. refl), last)))))

ask_within : (line : Ask → Line) (other : Form) → Within 150000 other → Within 150000 (ask_form line other)
ask_within line other last = what_fits (moment_form line) (outside_form line other) 150000 refl (moment_fits line) (outside_within line other last)

row_within : Within 150000 row_form
row_within = (
  refl,
  λ depth. (
    refl,
    λ id. (let rest : (kind : RowKind) → Within 140000 (row_end depth id kind) = λ kind. (refl, λ size. (refl, λ refs. (refl, λ target. refl))) in
        let at : (n : ℕ) → 140000 ≤ n → (kind : RowKind) → Within n (row_end depth id kind) = λ n le kind. wider (row_end depth id kind) 140000 n le (rest kind) in (
          refl,
          at 149953 (omega arith) row_kinds.Root,
          (
            refl,
            at 149952 (omega arith) row_kinds.Plain,
            (
              refl,
              at 149948 (omega arith) row_kinds.Reference,
              (
                refl,
                at 149952 (omega arith) row_kinds.Timer,
                (
                  refl,
                  at 149948 (omega arith) row_kinds.Immediate,
                  (refl, at 149955 (omega arith) row_kinds.Fd, (refl, at 149950 (omega arith) row_kinds.Request, (refl, at 149952 (omega arith) row_kinds.Queue, (refl, at 149952 (omega arith) row_kinds.Entry, (refl, at 149950 (omega arith) row_kinds.Context, tt))))),
                ),
              ),
            ),
          ),
        )),
  ),
)

refusal_within : Within 150000 refusal_form
refusal_within = search tt depth 40

numbers_within : Within 160000 numbers_form
numbers_within = (refl, λ n. (refl, λ m. tt))

reply_within : Within 160000 reply_form
reply_within =
    (refl, tt, (refl, wider refusal_form 150000 159997 (omega arith) refusal_within, (refl, (refl, λ n. tt), (refl, refl, (refl, tt, (refl, tt, (refl, tt, numbers_within)))))))

fired_within : Within 150000 (a_what fired_end Fails)
fired_within = what_fits fired_end Fails 150000 refl (λ what. fits_from (fired_end what) (refl, λ x. (refl, λ routine. tt))) tt

end_within : Within 150000 end_form
end_within = ask_within Ends (IfWord (codes "quiet") (Done (Ends asks.Quiet)) Fails) (refl, tt, tt)

event_within : Within 160000 event_form
event_within = (
  refl,
  wider (a_what fired_end Fails) 150000 159994 (omega arith) fired_within,
  (
    refl,
    (refl, λ reference. (refl, λ target. tt)),
    (
      refl,
      (refl, λ x. tt),
      (
        refl,
        (refl, λ x. (refl, λ answer. tt)),
        (refl, (refl, λ x. (refl, λ owner. tt)), (refl, (refl, λ x. tt), (refl, (refl, λ fd. tt), (refl, (refl, λ x. (refl, λ state. tt)), (refl, wider end_form 150000 159996 (omega arith) end_within, tt))))),
      ),
    ),
  ),
)

line_within : Within 262144 line_form
line_within = (
  refl,
  wider reply_form 160000 262138 (omega arith) reply_within,
  (
    refl,
    (refl, λ x. (refl, λ hook. tt)),
    (
      refl,
      wider (ask_form Asks Fails) 150000 262140 (omega arith) (ask_within Asks Fails tt),
      (refl, wider row_form 150000 262140 (omega arith) row_within, wider event_form 160000 262144 (omega arith) event_within),
    ),
  ),
)

-- what is longer is no line
pub too_long : (text : List ℕ) → line_limit < length text → line_of text ≡ None
unfolding line_of
too_long text long = by_line (read line_form (words text)) refl
  where
    by_line : (o : Option Line) → read line_form (words text) ≡ o → o ≡ None
    by_line None e = refl
    by_line (Some l) e =
        let fits : size (words text) ≤ 262144 = size_within line_form 262144 line_within (words text) l e in
        let short = joined_short (words text) in
        let same = ap length (joined-words text) in
        let over : 262144 < length text = long in
        absurd (omega (arith, fits, short, same, over))

pub is_short : (text : List ℕ) (line : Line) → line_of text ≡ Some line → length text ≤ line_limit
is_short text line e = by_length (ltb line_limit (length text)) refl
  where
    by_length : (b : Bool) → ltb line_limit (length text) ≡ b → length text ≤ line_limit
    by_length true h =
        let long : line_limit < length text = grind (arith, nat_tests) in
        let none : Some line ≡ None = sym e ∙ too_long text long in
        absurd cc
    by_length false h = grind (arith, nat_tests)
