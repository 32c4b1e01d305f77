use Rattle.tree_specs.specs.declared.schedule.Version.TheVariants.{Two}
use Rattle.schedule_text.proofs.Inputs.{input_back}
use Rattle.schedule_text.proofs.line_writer.write_input.Goals as goal

pub returns-clause-read_back : goal.returns-clause-read_back
returns-clause-read_back c = λ line e. input_back Two c.args.input.now c.requires c.the_bytes_of_an_input_are_bytes.ensures line e
