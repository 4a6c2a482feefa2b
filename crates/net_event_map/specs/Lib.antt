pub mod EventMap
