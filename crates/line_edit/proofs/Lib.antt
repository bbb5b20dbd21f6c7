pub mod EchoLemmas
