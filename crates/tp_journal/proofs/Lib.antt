pub mod FuseLaws
