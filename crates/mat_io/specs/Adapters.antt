-- What the adapters over readers and writers of the library keep.
use Rattle.std.specs.Prelude.{ℕ}
use Rattle.mat_io.specs.declared.std_sink.StdSink.{StdSink}
use Rattle.mat_io.specs.declared.std_source.StdSource.{StdSource}

-- the writer of a sink, and its faults so far
abbrev pub sink_writer : {W : Type 0} → StdSink W → W
sink_writer sink = sink.inner

abbrev pub sink_faults : {W : Type 0} → StdSink W → ℕ
sink_faults sink = sink.faults

-- the reader of a source, and its faults so far
abbrev pub source_reader : {R : Type 0} → StdSource R → R
source_reader source = source.inner

abbrev pub source_faults : {R : Type 0} → StdSource R → ℕ
source_faults source = source.faults
