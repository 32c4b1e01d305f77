-- What a reader of lines stands for.
use Rattle.line_pieces.specs.declared.reader.LineReader.{LineReader}
use Rattle.line_pieces.specs.Readings.{Reading}

abbrev pub reading_of : {T : Type 0} → LineReader T → Reading T
reading_of r = record { taker = r.taker; number = r.number; line = r.line.items }
