pub mod OneLeg
