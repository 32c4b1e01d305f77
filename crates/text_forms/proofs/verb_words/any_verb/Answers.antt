use Rattle.std.proofs.Common.{length, nat_eq, eq-eqb}
use Rattle.text_forms.proofs.Verbs.{is_verb}
use Rattle.text_forms.proofs.verb_words.any_verb.Goals as goal

pub returns-in-4 : goal.returns-in-4
returns-in-4 c = is_verb (λ n. nat_eq n 4) c.verb_of_4.result c.args.word.now (eq-eqb (length c.args.word.now) 4 c.in-4.is) c.verb_of_4.ensures

pub returns-in-5 : goal.returns-in-5
returns-in-5 c = is_verb (λ n. nat_eq n 5) c.verb_of_5.result c.args.word.now (eq-eqb (length c.args.word.now) 5 c.in-5.is) c.verb_of_5.ensures

pub returns-in-6 : goal.returns-in-6
returns-in-6 c = is_verb (λ n. nat_eq n 6) c.verb_of_6.result c.args.word.now (eq-eqb (length c.args.word.now) 6 c.in-6.is) c.verb_of_6.ensures

pub returns-in-7 : goal.returns-in-7
returns-in-7 c = is_verb (λ n. nat_eq n 7) c.verb_of_7.result c.args.word.now (eq-eqb (length c.args.word.now) 7 c.in-7.is) c.verb_of_7.ensures

pub returns-in-8 : goal.returns-in-8
returns-in-8 c = is_verb (λ n. nat_eq n 8) c.verb_of_8.result c.args.word.now (eq-eqb (length c.args.word.now) 8 c.in-8.is) c.verb_of_8.ensures
