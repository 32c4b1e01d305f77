-- A machine whose works carry a note, so that an item can be told with what the note says and the pool just before it.
use Rattle.std.specs.Prelude.{Option, Some, None}
use Rattle.step_machine.specs.Machine.{Move, Table}
use Rattle.step_machine.specs.Machine.Move.{Done, Go, Emit, Wait, Call}

-- an item, with the pool just before it and what it is about
pub record Scene (P N T : Type 0) : Type 0 where
  pub item : T
  pub before : P
  pub about : Option N

-- a work with its note
pub record Noted (F N : Type 0) : Type 0 where
  pub work : F
  pub note : Option N

-- how works take notes
pub record Notes (F P N : Type 0) : Type 0 where
  -- the note that a work has after its step over this pool
  pub after : F → P → Option N → Option N
  -- what an item that the work tells is about
  pub about : F → Option N → Option N

abbrev pub with_note : {F N : Type 0} → Option N → F → Noted F N
with_note n f = record { work = f; note = n }

abbrev pub scene : {F P N T : Type 0} → Notes F P N → F → Option N → P → T → Scene P N T
scene notes f n p t = record { item = t; before = p; about = notes.about f n }

-- the move of a work with a note: a new work has none
abbrev pub noted_move : {F A P T N : Type 0} → Notes F P N → F → Option N → P → Move F A P T → Move (Noted F N) A P (Scene P N T)
noted_move notes f n p (Done a q) = Done a q
noted_move notes f n p (Go g q) = Go (with_note (notes.after f p n) g) q
noted_move notes f n p (Emit e g q) = Emit (scene notes f n p e) (with_note (notes.after f p n) g) q
noted_move notes f n p (Wait e g q) = Wait (scene notes f n p e) (with_note (notes.after f p n) g) q
noted_move notes f n p (Call g h q) = Call (with_note None g) (with_note (notes.after f p n) h) q

abbrev pub noted_work : {F N : Type 0} → Option N → Option F → Option (Noted F N)
noted_work n None = None
noted_work n (Some f) = Some (with_note n f)

abbrev pub noted : {F A P I T N : Type 0} → Notes F P N → Table F A P I T → Table (Noted F N) A P I (Scene P N T)
noted notes t = record {
  step = λ w p. noted_move notes w.work w.note p (t.step w.work p);
  resume = λ w a. with_note w.note (t.resume w.work a);
  taken = λ w p i. noted_work w.note (t.taken w.work p i);
}
